-- The sectors of an image, one after the other, are the image.
use Rattle.std.proofs.Common.{◌-◌}

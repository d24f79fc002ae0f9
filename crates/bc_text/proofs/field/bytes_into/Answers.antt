use Rattle.std.proofs.Common.{◌≡◌, false, length, refl}
use Rattle.std.specs.List.{list_any}
use Rattle.bc_text.specs.Fields.{is_upper_digit}
use Rattle.bc_text.proofs.HexTexts.{decoded_into, not_decoded_into, lower-encode_lower}
use Rattle.bc_text.proofs.field.bytes_into.Goals as goal

pub returns-then-has_upper_digit : goal.returns-then-has_upper_digit
returns-then-has_upper_digit c = λ bytes fits count same. let low = lower-encode_lower bytes fits in cc

pub returns-in-Ok : goal.returns-in-Ok
returns-in-Ok c =
    let low : list_any is_upper_digit c.args.field.now ≡ false = cc in
    decoded_into c.args.field.now (length c.args.out.now) c.decode_to_slice.result c.decode_to_slice.new.out low c.decode_to_slice.ensures.value (rw c.in-Ok.is refl)

pub returns-in-Err : goal.returns-in-Err
returns-in-Err c = not_decoded_into c.args.field.now (length c.args.out.now) c.decode_to_slice.result c.in-Err.field-0 c.decode_to_slice.new.out c.decode_to_slice.ensures.value c.in-Err.is

use Rattle.bc_aes.proofs.CipherLaws.{decipherment_undoes, encipherment_undoes, encipherment_makes_blocks, decipherment_makes_blocks}
use Rattle.bc_aes.proofs.laws.cipher_laws.Goals as goal

pub returns : goal.returns
returns c = record {
  decipherment_undoes = decipherment_undoes;
  encipherment_undoes = encipherment_undoes;
  encipherment_makes_blocks = encipherment_makes_blocks;
  decipherment_makes_blocks = decipherment_makes_blocks;
}

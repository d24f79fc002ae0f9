use Rattle.std.proofs.Common.{refl}
use Rattle.clap.proofs.OnLiterals.{clap_on_literals}
use Rattle.bc_run.proofs.laws.make_words_by_example.Goals as goal

pub returns : goal.returns
unfolding clap_on_literals
returns c = record {
  number = (record { named = refl; taken = refl }, refl);
  most = (record { named = refl; taken = refl }, refl);
  zeros_before = (record { named = refl; taken = refl }, refl);
  options = (record { named = refl; taken = refl }, refl);
  threads = (record { named = refl; taken = refl }, refl);
  threads_before = (record { named = refl; taken = refl }, refl);
  no_number = refl;
  zero = refl;
  too_many = refl;
  no_slots = refl;
  too_many_slots = refl;
  too_many_shards = refl;
  two_numbers = refl;
  image = refl;
  threads_twice = refl;
  threads_of_value = refl;
  helpers = refl;
}

use Rattle.std.proofs.Common.{refl, inl, inr}
use Rattle.clap.proofs.OnLiterals.{clap_on_literals}
use Rattle.bc_run.proofs.laws.words_by_example.Goals as goal

pub returns : goal.returns
unfolding clap_on_literals
returns c = record {
  none = (record { named = inl refl; taken = refl }, refl);
  all = (record { named = inl refl; taken = refl }, refl);
  zeros_before = (record { named = inl refl; taken = refl }, refl);
  plus_before = (record { named = inl refl; taken = refl }, refl);
  most = (record { named = inl refl; taken = refl }, refl);
  no_name = (record { named = inl refl; taken = refl }, refl);
  end = (record { named = inl refl; taken = refl }, refl);
  no_shards = refl;
  too_many = refl;
  no_number = refl;
  no_value = refl;
  twice = refl;
  dash = refl;
  help = refl;
  version = refl;
  stray = refl;
  threads = (record { named = inr refl; taken = refl }, refl);
  threads_all = (record { named = inr refl; taken = refl }, refl);
  threads_most = refl;
  helpers = refl;
}

-- `main` lends buffers of the sizes that the session is stated for.
use Prim.Native.Nat.{ℕ}
use lib.IntN.{ℤ, pos}
use lib.ListN.{length-replicate}
use Rattle.console.proofs.main.Goals as goal

pub run-requires : goal.run-requires
run-requires c = record {
  chunk_room = length-replicate {A = ℕ} 256 0;
  line_room = length-replicate {A = ℕ} 131073 0;
  out_room = length-replicate {A = ℕ} 409600 0;
  v_room = length-replicate {A = ℤ} 8192 (pos 0);
  s1_room = length-replicate {A = ℤ} 8192 (pos 0);
  s3_room = length-replicate {A = ℤ} 8192 (pos 0);
}

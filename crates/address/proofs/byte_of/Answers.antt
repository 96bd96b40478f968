-- `byte_of` meets its contract.
use mathlib.Core.Path.{refl}
use Rattle.address.specs.Addresses.{byte_of}
use Rattle.address.proofs.byte_of.Goals as goal

pub returns : goal.returns
unfolding byte_of
returns c = refl

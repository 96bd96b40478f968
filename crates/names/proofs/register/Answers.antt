-- `names::register` meets its contract: the table in the code is that of the definition.
use Rattle.serial.specs.Ascii.{ascii}
use Rattle.names.specs.Names.{registers, spelled, register_named}
use Rattle.names.proofs.register.Goals as goal

pub returns : goal.returns
unfolding register_named spelled registers ascii
returns c = c.number_in.ensures

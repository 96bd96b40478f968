-- `names::field` meets its contract: the table in the code is that of the definition.
use Rattle.serial.specs.Ascii.{ascii}
use Rattle.names.specs.Names.{fields, spelled, field_named}
use Rattle.names.proofs.field.Goals as goal

pub returns : goal.returns
unfolding field_named spelled fields ascii
returns c = c.number_in.ensures

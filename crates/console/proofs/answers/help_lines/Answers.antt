-- `help_lines` is the help.
use native.Mathlib.Omega.{arith}
use Rattle.serial.specs.Ascii.{ascii}
use Rattle.console.specs.Answers.{help_lines, lines_of, help_text}
use Rattle.console.proofs.answers.help_lines.Goals as goal

pub returns : goal.returns
unfolding help_text help_lines lines_of ascii
returns c = (c.put.ensures.0, omega (arith, c.put.ensures.1))

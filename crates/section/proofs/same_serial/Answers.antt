-- `section::same_serial` meets its contract: two serials whose numbers agree are the same.
use Rattle.section.proofs.Sections.{same_words}
use Rattle.section.proofs.same_serial.Goals as goal

pub returns : goal.returns
returns c = rw (c.front.ensures, c.front-2.ensures, c.back.ensures, c.back-2.ensures) (same_words c.args.x.now c.args.y.now c.told-x c.told-y c.fits-x c.fits-y)

-- `words` says a reason in words.
use mathlib.Core.Path.{refl}
use native.Mathlib.Omega.{arith}
use Rattle.serial.specs.Ascii.{ascii}
use Rattle.console.specs.Unread.{why_words}
use Rattle.console.proofs.unread.Why.words.Goals as goal

pub returns-in-TooLong : goal.returns-in-TooLong
unfolding why_words ascii
returns-in-TooLong c = rw c.in-TooLong.is (refl, omega arith)

pub returns-in-NoStep : goal.returns-in-NoStep
unfolding why_words ascii
returns-in-NoStep c = rw c.in-NoStep.is (refl, omega arith)

pub returns-in-Missing : goal.returns-in-Missing
unfolding why_words ascii
returns-in-Missing c = rw c.in-Missing.is (refl, omega arith)

pub returns-in-NotNumber : goal.returns-in-NotNumber
unfolding why_words ascii
returns-in-NotNumber c = rw c.in-NotNumber.is (refl, omega arith)

pub returns-in-NotField : goal.returns-in-NotField
unfolding why_words ascii
returns-in-NotField c = rw c.in-NotField.is (refl, omega arith)

pub returns-in-NotRegister : goal.returns-in-NotRegister
unfolding why_words ascii
returns-in-NotRegister c = rw c.in-NotRegister.is (refl, omega arith)

pub returns-in-More : goal.returns-in-More
unfolding why_words ascii
returns-in-More c = rw c.in-More.is (refl, omega arith)

pub returns-in-NoBar : goal.returns-in-NoBar
unfolding why_words ascii
returns-in-NoBar c = rw c.in-NoBar.is (refl, omega arith)

pub returns-in-TooMany : goal.returns-in-TooMany
unfolding why_words ascii
returns-in-TooMany c = rw c.in-TooMany.is (refl, omega arith)

pub returns-in-NotSample : goal.returns-in-NotSample
unfolding why_words ascii
returns-in-NotSample c = rw c.in-NotSample.is (refl, omega arith)

pub returns-in-NotRoom : goal.returns-in-NotRoom
unfolding why_words ascii
returns-in-NotRoom c = rw c.in-NotRoom.is (refl, omega arith)

pub returns-in-NotByte : goal.returns-in-NotByte
unfolding why_words ascii
returns-in-NotByte c = rw c.in-NotByte.is (refl, omega arith)

pub returns-in-TooManyBytes : goal.returns-in-TooManyBytes
unfolding why_words ascii
returns-in-TooManyBytes c = rw c.in-TooManyBytes.is (refl, omega arith)

-- `refusal::Refusal::words` meets its contract: each variant's words are those of its number in the table.
use Rattle.serial.specs.Ascii.{ascii}
use Rattle.refusal.specs.Words.{table, words_of}
use Rattle.refusal.proofs.Refusal.words.Goals as goal

pub returns-in-NotSerial : goal.returns-in-NotSerial
unfolding words_of table ascii
returns-in-NotSerial c = simp c.in-NotSerial.is

pub returns-in-Malformed : goal.returns-in-Malformed
unfolding words_of table ascii
returns-in-Malformed c = simp c.in-Malformed.is

pub returns-in-Withdrawn : goal.returns-in-Withdrawn
unfolding words_of table ascii
returns-in-Withdrawn c = simp c.in-Withdrawn.is

pub returns-in-NoCard : goal.returns-in-NoCard
unfolding words_of table ascii
returns-in-NoCard c = simp c.in-NoCard.is

pub returns-in-BlockSize : goal.returns-in-BlockSize
unfolding words_of table ascii
returns-in-BlockSize c = simp c.in-BlockSize.is

pub returns-in-SampleRange : goal.returns-in-SampleRange
unfolding words_of table ascii
returns-in-SampleRange c = simp c.in-SampleRange.is

pub returns-in-StartRange : goal.returns-in-StartRange
unfolding words_of table ascii
returns-in-StartRange c = simp c.in-StartRange.is

pub returns-in-NoPort : goal.returns-in-NoPort
unfolding words_of table ascii
returns-in-NoPort c = simp c.in-NoPort.is

pub returns-in-PortOpen : goal.returns-in-PortOpen
unfolding words_of table ascii
returns-in-PortOpen c = simp c.in-PortOpen.is

pub returns-in-PortShut : goal.returns-in-PortShut
unfolding words_of table ascii
returns-in-PortShut c = simp c.in-PortShut.is

pub returns-in-NoField : goal.returns-in-NoField
unfolding words_of table ascii
returns-in-NoField c = simp c.in-NoField.is

pub returns-in-ValueRange : goal.returns-in-ValueRange
unfolding words_of table ascii
returns-in-ValueRange c = simp c.in-ValueRange.is

pub returns-in-FieldMissing : goal.returns-in-FieldMissing
unfolding words_of table ascii
returns-in-FieldMissing c = simp c.in-FieldMissing.is

pub returns-in-NoInterval : goal.returns-in-NoInterval
unfolding words_of table ascii
returns-in-NoInterval c = simp c.in-NoInterval.is

pub returns-in-NothingHeld : goal.returns-in-NothingHeld
unfolding words_of table ascii
returns-in-NothingHeld c = simp c.in-NothingHeld.is

pub returns-in-NoRegister : goal.returns-in-NoRegister
unfolding words_of table ascii
returns-in-NoRegister c = simp c.in-NoRegister.is

pub returns-in-SlotOff : goal.returns-in-SlotOff
unfolding words_of table ascii
returns-in-SlotOff c = simp c.in-SlotOff.is

pub returns-in-NoCardYet : goal.returns-in-NoCardYet
unfolding words_of table ascii
returns-in-NoCardYet c = simp c.in-NoCardYet.is

pub returns-in-Present : goal.returns-in-Present
unfolding words_of table ascii
returns-in-Present c = simp c.in-Present.is

pub returns-in-Full : goal.returns-in-Full
unfolding words_of table ascii
returns-in-Full c = simp c.in-Full.is

pub returns-in-NoRoom : goal.returns-in-NoRoom
unfolding words_of table ascii
returns-in-NoRoom c = simp c.in-NoRoom.is

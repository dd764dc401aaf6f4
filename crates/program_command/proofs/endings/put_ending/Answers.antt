use Rattle.std.proofs.Common.{refl}
use Rattle.filters.proofs.Telling.{Tells-put}
use Rattle.program_command.proofs.Telling.{Tells-at}
use Rattle.program_command.proofs.endings.put_ending.Goals as goal

pub returns-in-Unshown : goal.returns-in-Unshown
returns-in-Unshown g c = Tells-at _ _ _ _ _ _ c.in-Unshown.is (rw c.deref.ensures.value at c.put_unshown.ensures)

pub returns-in-Limit : goal.returns-in-Limit
returns-in-Limit g c = Tells-at _ _ _ _ _ _ c.in-Limit.is (rw c.limit_text.ensures at c.put_placed.ensures)

pub returns-in-NoRoom : goal.returns-in-NoRoom
returns-in-NoRoom g c = Tells-at _ _ _ _ _ _ c.in-NoRoom.is c.put_placed-in-NoRoom.ensures

pub returns-in-TooLong : goal.returns-in-TooLong
returns-in-TooLong g c = Tells-at _ _ _ _ _ _ c.in-TooLong.is c.put_line.ensures

pub returns-in-BadWord : goal.returns-in-BadWord
returns-in-BadWord g c = Tells-at _ _ _ _ _ _ c.in-BadWord.is
    (Tells-put c.usage_line.result _ _ _ _ _ _ refl c.usage_line.ensures.ok c.usage_line.ensures.err c.usage_line.ensures.failures)

pub returns-in-CannotOpen : goal.returns-in-CannotOpen
returns-in-CannotOpen g c = Tells-at _ _ _ _ _ _ c.in-CannotOpen.is c.put_unopened.ensures

pub returns-in-NoMacros : goal.returns-in-NoMacros
returns-in-NoMacros g c = Tells-at _ _ _ _ _ _ c.in-NoMacros.is c.put_line-in-NoMacros.ensures

pub returns-in-ReadFault : goal.returns-in-ReadFault
returns-in-ReadFault g c = Tells-at _ _ _ _ _ _ c.in-ReadFault.is c.put_placed-in-ReadFault.ensures

pub returns-in-LeftOut : goal.returns-in-LeftOut
returns-in-LeftOut g c = Tells-at _ _ _ _ _ _ c.in-LeftOut.is (rw c.why_text.ensures at c.put_placed-in-LeftOut.ensures)

pub returns-in-NoFolder : goal.returns-in-NoFolder
returns-in-NoFolder g c = Tells-at _ _ _ _ _ _ c.in-NoFolder.is c.put_line-in-NoFolder.ensures

pub returns-in-WriteFault : goal.returns-in-WriteFault
returns-in-WriteFault g c = Tells-at _ _ _ _ _ _ c.in-WriteFault.is c.put_line-in-WriteFault.ensures

pub returns-in-OutOfMemory : goal.returns-in-OutOfMemory
returns-in-OutOfMemory g c = Tells-at _ _ _ _ _ _ c.in-OutOfMemory.is c.put_line-in-OutOfMemory.ensures

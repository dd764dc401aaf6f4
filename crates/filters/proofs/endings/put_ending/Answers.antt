use Rattle.filters.proofs.Telling.{Tells-at}
use Rattle.filters.proofs.endings.put_ending.Goals as goal

pub returns-in-TooLong : goal.returns-in-TooLong
returns-in-TooLong g c = Tells-at _ _ _ _ c.args.program.now _ _ c.in-TooLong.is c.put_line_of.ensures

pub returns-in-ReadFault : goal.returns-in-ReadFault
returns-in-ReadFault g c = Tells-at _ _ _ _ c.args.program.now _ _ c.in-ReadFault.is (rw c.format.ensures.text at c.put_line_of-in-ReadFault.ensures)

pub returns-in-WriteFault : goal.returns-in-WriteFault
returns-in-WriteFault g c = Tells-at _ _ _ _ c.args.program.now _ _ c.in-WriteFault.is c.put_line.ensures

pub returns-in-BadWord : goal.returns-in-BadWord
returns-in-BadWord g c = Tells-at _ _ _ _ c.args.program.now _ _ c.in-BadWord.is c.put_line-in-BadWord.ensures

pub returns-in-CannotOpen : goal.returns-in-CannotOpen
returns-in-CannotOpen g c = Tells-at _ _ _ _ c.args.program.now _ _ c.in-CannotOpen.is c.put_line-in-CannotOpen.ensures

pub returns-in-CannotRead : goal.returns-in-CannotRead
returns-in-CannotRead g c = Tells-at _ _ _ _ c.args.program.now _ _ c.in-CannotRead.is c.put_line-in-CannotRead.ensures

pub returns-in-OutOfMemory : goal.returns-in-OutOfMemory
returns-in-OutOfMemory g c = Tells-at _ _ _ _ c.args.program.now _ _ c.in-OutOfMemory.is c.put_line-in-OutOfMemory.ensures

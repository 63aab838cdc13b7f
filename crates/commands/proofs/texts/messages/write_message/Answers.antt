use Rattle.commands.proofs.texts.messages.write_message.Goals as goal

pub returns-in-BadValue : goal.returns-in-BadValue
returns-in-BadValue g c = rw c.in-BadValue.is (rw (c.as_bytes.ensures.value, c.text.ensures) at c.write_pieces.ensures)

pub returns-in-SameNode : goal.returns-in-SameNode
returns-in-SameNode g c = rw c.in-SameNode.is c.write_text.ensures

pub returns-in-BadAvoid : goal.returns-in-BadAvoid
returns-in-BadAvoid g c = rw c.in-BadAvoid.is c.write_text-in-BadAvoid.ensures

pub returns-in-CannotOpenPlan : goal.returns-in-CannotOpenPlan
returns-in-CannotOpenPlan g c = rw c.in-CannotOpenPlan.is c.write_text-in-CannotOpenPlan.ensures

pub returns-in-CannotOpenRequests : goal.returns-in-CannotOpenRequests
returns-in-CannotOpenRequests g c = rw c.in-CannotOpenRequests.is c.write_text-in-CannotOpenRequests.ensures

pub returns-in-RequestsRead : goal.returns-in-RequestsRead
returns-in-RequestsRead g c = rw c.in-RequestsRead.is c.write_text-in-RequestsRead.ensures

pub returns-in-CannotOpenLists : goal.returns-in-CannotOpenLists
returns-in-CannotOpenLists g c = rw c.in-CannotOpenLists.is c.write_text-in-CannotOpenLists.ensures

pub returns-in-ListsRead : goal.returns-in-ListsRead
returns-in-ListsRead g c = rw c.in-ListsRead.is c.write_text-in-ListsRead.ensures

pub returns-in-Write : goal.returns-in-Write
returns-in-Write g c = rw c.in-Write.is c.write_text-in-Write.ensures

pub returns-in-NoMemory : goal.returns-in-NoMemory
returns-in-NoMemory g c = rw c.in-NoMemory.is c.write_text-in-NoMemory.ensures

pub returns-in-CannotOpenSession : goal.returns-in-CannotOpenSession
returns-in-CannotOpenSession g c = rw c.in-CannotOpenSession.is c.write_text-in-CannotOpenSession.ensures

pub returns-in-CannotMakeSession : goal.returns-in-CannotMakeSession
returns-in-CannotMakeSession g c = rw c.in-CannotMakeSession.is c.write_text-in-CannotMakeSession.ensures

pub returns-in-SessionRead : goal.returns-in-SessionRead
returns-in-SessionRead g c = rw c.in-SessionRead.is c.write_text-in-SessionRead.ensures

pub returns-in-NotUtf8 : goal.returns-in-NotUtf8
returns-in-NotUtf8 g c = rw c.in-NotUtf8.is c.write_text-in-NotUtf8.ensures

pub returns-in-RequestsLine : goal.returns-in-RequestsLine
returns-in-RequestsLine g c = rw c.in-RequestsLine.is (rw c.line_kind_text.ensures at c.write_line-in-RequestsLine.ensures)

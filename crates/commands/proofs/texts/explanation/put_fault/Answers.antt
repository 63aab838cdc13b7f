use Rattle.commands.proofs.texts.explanation.put_fault.Goals as goal

pub returns-in-Empty : goal.returns-in-Empty
returns-in-Empty g c = rw c.in-Empty.is c.put.ensures

pub returns-in-NoSuchContact : goal.returns-in-NoSuchContact
returns-in-NoSuchContact g c = rw c.in-NoSuchContact.is c.put_refusal.ensures

pub returns-in-NodeAgain : goal.returns-in-NodeAgain
returns-in-NodeAgain g c = rw c.in-NodeAgain.is c.put_refusal-in-NodeAgain.ensures

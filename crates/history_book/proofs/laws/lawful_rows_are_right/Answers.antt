use Rattle.history_book.proofs.RightLaws.{right-lawful, right-true, right-not_wrong, lawful-right}
use Rattle.history_book.proofs.laws.lawful_rows_are_right.Goals as goal

pub returns-clause-lawful : goal.returns-clause-lawful
returns-clause-lawful c = right-lawful

pub returns-clause-replies : goal.returns-clause-replies
returns-clause-replies c = right-true

pub returns-clause-right : goal.returns-clause-right
returns-clause-right c = lawful-right

pub returns-clause-wrong : goal.returns-clause-wrong
returns-clause-wrong c = right-not_wrong

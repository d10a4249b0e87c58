-- `dots::combine` meets its contract. Assumes nothing.
use borrow.Author.Rules.{rules}
use Rattle.dots.proofs.LogicLaws.{replace_code, complement_code, reset_code, set_code}
use Rattle.dots.proofs.combine.Goals as goal

pub returns-in-Replace : goal.returns-in-Replace
returns-in-Replace c = rw c.in-Replace.is (replace_code _ _ _ (search rules) (search rules) (search rules))

pub returns-in-Complement : goal.returns-in-Complement
returns-in-Complement c = rw c.in-Complement.is (complement_code _ _ _ (search rules) (search rules) (search rules))

pub returns-in-Reset : goal.returns-in-Reset
returns-in-Reset c = rw c.in-Reset.is (reset_code _ _ _ (search rules) (search rules) (search rules))

pub returns-in-Set : goal.returns-in-Set
returns-in-Set c = rw c.in-Set.is (set_code _ _ _ (search rules) (search rules) (search rules))

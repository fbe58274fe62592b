use Rattle.order_facts.specs.Words.{JoinsWords}
use Rattle.order_facts.proofs.square.join_words.Given as goal

-- so many words are joined
abbrev pub invariant-loop-k : goal.invariant-loop-k
invariant-loop-k l = JoinsWords l.fn.words.items l.words.items l.fn.words.items l.into l.from l.k

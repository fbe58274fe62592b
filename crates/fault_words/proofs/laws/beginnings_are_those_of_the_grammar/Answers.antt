use Rattle.fault_words.proofs.FirstTokens.{as_many, set_firsts}
use Rattle.fault_words.proofs.FirstWords.{word_first}
use Rattle.fault_words.proofs.laws.beginnings_are_those_of_the_grammar.Goals as goal

pub returns-clause-tokens : goal.returns-clause-tokens
returns-clause-tokens c = set_firsts

pub returns-clause-numbers : goal.returns-clause-numbers
returns-clause-numbers c = as_many

pub returns-clause-words : goal.returns-clause-words
returns-clause-words c = word_first

use Rattle.std.proofs.Common.{◌≡◌, ◌++◌, drop, string_bytes}
use Rattle.analysis_words.specs.Instances.{given_from}
use Rattle.analysis_words.proofs.instances.given_list.Given as goal

-- what comes behind the text so far makes it the whole
abbrev pub invariant-loop-number : goal.invariant-loop-number
invariant-loop-number l =
    string_bytes l.text ++ given_from l.sample l.is_first l.number (drop l.number l.params) ≡ given_from l.sample l.is_first 0 l.params

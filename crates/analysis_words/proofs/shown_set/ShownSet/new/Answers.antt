use Rattle.analysis_words.proofs.shown_set.ShownSet.new.Goals as goal

pub returns : goal.returns
returns c = λ i. record { text = c.in_ok-text.ensures i; set = c.args.set.now; paths = c.in_ok-paths.ensures.exact i }

use Rattle.robust_cert.proofs.text.tails.push_cover_tail.Goals as goal

pub push_list-requires : goal.push_list-requires
push_list-requires c i d within = tt

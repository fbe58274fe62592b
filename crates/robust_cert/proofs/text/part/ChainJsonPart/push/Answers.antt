use Rattle.robust_cert.proofs.text.part.ChainJsonPart.push.Goals as goal

pub push_list-requires : goal.push_list-requires
push_list-requires c = c.as_slice.ensures.fits

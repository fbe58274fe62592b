use Rattle.std.proofs.Common.{subst}
use Rattle.robust_cert.specs.Telling.{question_with}
use Rattle.robust_cert.specs.Flaws.{IsFlawOf}
use Rattle.robust_cert.specs.Sharing.{entry_with}
use Rattle.robust_cert.proofs.Firsts.{no-question, order-fault, entry-stands, cover-fault, chain-fault}
use Rattle.robust_cert.proofs.checking.entry_check.check_entry.Goals as goal

pub returns-then-not-is_behind_last-clause-fault : goal.returns-then-not-is_behind_last-clause-fault
returns-then-not-is_behind_last-clause-fault c = order-fault c.args.paths.now c.args.entries.now c.args.k c.question-question.result c.question-question.ensures (question_with c.from.result) c.from.ensures c.in-Some.asked.mine.now c.in-Some.asked.theirs.now c.in-Some.ensures.some c.is_behind_last.result c.is_behind_last.ensures c.if-not-is_behind_last.true

pub returns-in-Ok-clause-stands : goal.returns-in-Ok-clause-stands
returns-in-Ok-clause-stands c = entry-stands c.args.paths.now c.args.entries.now c.args.k c.question-question.result c.question-question.ensures (question_with c.from.result) c.from.ensures c.in-Some.asked.mine.now c.in-Some.asked.theirs.now c.in-Some.ensures.some c.is_behind_last.result c.is_behind_last.ensures c.reason.result.now c.reason.ensures c.if-not-is_behind_last.false c.in-Ok.ensures.fitting c.in-Ok.ensures.chains

pub returns-in-Err-Cover-clause-fault : goal.returns-in-Err-Cover-clause-fault
returns-in-Err-Cover-clause-fault c = cover-fault c.args.paths.now c.args.entries.now c.args.k c.question-question.result c.question-question.ensures (question_with c.from.result) c.from.ensures c.in-Some.asked.mine.now c.in-Some.asked.theirs.now c.in-Some.ensures.some c.is_behind_last.result c.is_behind_last.ensures c.reason.result.now c.reason.ensures c.if-not-is_behind_last.false (subst (IsFlawOf c.args.paths.now (entry_with c.question-question.result c.reason.result.now)) c.in-Err-Cover.field-0-is c.in-Err-Cover.ensures.flaw)

pub returns-in-Err-Chain-clause-fault : goal.returns-in-Err-Chain-clause-fault
returns-in-Err-Chain-clause-fault c = chain-fault c.args.paths.now c.args.entries.now c.args.k c.question-question.result c.question-question.ensures (question_with c.from.result) c.from.ensures c.in-Some.asked.mine.now c.in-Some.asked.theirs.now c.in-Some.ensures.some c.is_behind_last.result c.is_behind_last.ensures c.reason.result.now c.reason.ensures c.if-not-is_behind_last.false (subst (IsFlawOf c.args.paths.now (entry_with c.question-question.result c.reason.result.now)) c.in-Err-Chain.field-0-is c.in-Err-Chain.ensures.flaw)

pub returns-in_default-clause-fault : goal.returns-in_default-clause-fault
returns-in_default-clause-fault c = no-question c.args.paths.now c.args.entries.now c.args.k c.question-question.result c.question-question.ensures (question_with c.from.result) c.from.ensures c.in_default.ensures.none

use Rattle.std.proofs.Common.{◌∙◌, sym, take}
use Rattle.prog_tree.specs.Tree.{draft_tree}
use Rattle.repair_laws.specs.Materialised.{materialised_by}
use Rattle.si_repair.proofs.NewTables.{firsts_have_keys, refused_made, sound_made}
use Rattle.si_repair.proofs.repairs.materialise.FirstNewTablesFirsts.fit.Goals as goal

pub with_new_tables-requires : goal.with_new_tables-requires
with_new_tables-requires c = firsts_have_keys (draft_tree c.args.self.now.set.now) c.args.self.now.made.now c.args.n c.requires.stands

pub returns-clause-fits : goal.returns-clause-fits
returns-clause-fits c fits =
    sound_made (materialised_by (draft_tree c.args.self.now.set.now) (take c.args.n c.args.self.now.made.now)) c.in_ok-repaired.repaired
    (sym c.is_some.ensures ∙ fits) c.in_ok-repaired.ensures.made c.in_ok-repaired.ensures.sound

pub returns-clause-refused : goal.returns-clause-refused
returns-clause-refused c large =
    refused_made (materialised_by (draft_tree c.args.self.now.set.now) (take c.args.n c.args.self.now.made.now)) c.in_ok-repaired.repaired
    (sym c.is_some.ensures ∙ large) c.in_ok-repaired.ensures.refused

use denote.Exit.{no}
use denote.Param.Send.{param_send, arg_send}
use Rattle.si_workers.proofs.CrossingLaws.{closure-send}
use Rattle.si_workers.proofs.threads.start_all.Goals as goal

pub spawn-started-requires-send-F : goal.spawn-started-requires-send-F
spawn-started-requires-send-F g c κs within =
    param_send _ _ (arg_send _ no _ (closure-send g.row.R g.row.G g.row.J _ _ _ _ _ c.type_bounds.sync-R c.type_bounds.sync-G))

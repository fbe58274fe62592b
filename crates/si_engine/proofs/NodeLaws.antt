-- Each committed instance of a lawful history of a sound set follows a node.
use Rattle.std.proofs.Common.{◌≡◌, ℕ, List, [], ◌∷◌, inl, inr, map, ap, sym, subst, ◌∙◌}
use Rattle.std.specs.Prelude.{Option, Some, slice_get}
use Rattle.prog_tree.specs.declared.table.TableDecl.{TableDecl}
use Rattle.prog_tree.specs.Evaluation.{Evaluation}
use Rattle.prog_tree.specs.Syntax.{Name, ProgramTree, DraftTree}
use Rattle.prog_tree.specs.Table.{TableState}
use Rattle.prog_check.specs.declared.path.Path.{Path}
use Rattle.prog_check.specs.Paths.{Route, path_of, program_paths, paths_of}
use Rattle.prog_paths.specs.Follows.{Follows}
use Rattle.prog_paths.specs.Law.{FollowsPath}
use Rattle.prog_paths.proofs.Nodes.{node_of}
use Rattle.prog_paths.proofs.Programs.{member_at}
use Rattle.prog_tree.proofs.Elements.{IsMember}
use Rattle.prog_paths.proofs.Sound.{law_of_paths}
use Rattle.history_book.specs.Dependencies.{run_found, start_found}
use Rattle.history_book.specs.History.{Instance, nth_instance, state_after, eval_of, IsCalled}
use Rattle.history_book.proofs.DependencyLaws.{found_at}
use Rattle.history_book.proofs.HistoryLaws.{eval_of-found}
use Rattle.si_engine.specs.Robustness.{HasCommitted, IsHistory, FollowsNode, LawOfNodes}
use Rattle.si_engine.proofs.RowLaws.{rows_after}

-- a path of a program has its number
program_of : (tables : List TableDecl) (number : ℕ) (params : List Name) (routes : List Route) (path : Path) →
    IsMember path (map (path_of tables number params) routes) → path.program ≡ number
program_of tables number params [] path h = absurd h
program_of tables number params (r ∷ rs) path (inl e) = ap (λ (p : Path). p.program) (sym e)
program_of tables number params (r ∷ rs) path (inr h) = program_of tables number params rs path h

module _ (set : DraftTree) (opening : TableState) (h : List Instance) (is : IsHistory set opening h) where
  -- what an instance of a program did on the state that it saw
  abbrev state_of : Instance → TableState
  state_of b = state_after set opening h b.start

  -- the path of an instance
  path_followed : (i : ℕ) (b : Instance) → HasCommitted h i → nth_instance h i ≡ Some b → (called : IsCalled set b) →
      FollowsPath set.tables b.program called.0 b.args (state_of b)
  path_followed i b one found called =
      let ready =
      ap (λ (e : Evaluation). e.ending) (sym (eval_of-found set b called.0 (state_of b) called.1))
      ∙ is.lawful.ready i b found in
      let rows = rows_after set opening h is.sound is.lawful is.opening_rows b.start in
      (law_of_paths set b.program called.0 b.args (state_of b) is.sound called.1 called.2 called.3 rows ready).0

  node_followed : (i : ℕ) → HasCommitted h i → (b : Instance) → nth_instance h i ≡ Some b → FollowsNode set opening h i
  node_followed i one b found =
      record {
        instance = b;
        at = found;
        node = place.0;
        path = f.path;
        path_at = place.1;
        program = program_of set.tables b.program p.params _ f.path (member_at paths f.place f.path f.at);
        v = f.v;
        arguments = f.arguments;
        of_i64 = f.of_i64;
        follows = subst Follow (sym found) of_program;
      }
    where
      called : IsCalled set b
      called = is.lawful.called i b found

      p : ProgramTree
      p = called.0

      f : FollowsPath set.tables b.program p b.args (state_of b)
      f = path_followed i b one found called

      paths : List Path
      paths = program_paths set.tables b.program p

      -- what the instance that may be found did, follows the path
      Follow : Option Instance → Type 0
      Follow o =
          let m = state_after set opening h (start_found o) in
          Follows m f.path f.v (run_found set o m)

      place : (x : ℕ) × (slice_get (paths_of set) x ≡ Some f.path)
      place = node_of set b.program f.place p f.path called.1 f.at

      of_program : Follows (state_of b) f.path f.v (eval_of set b (state_of b))
      of_program =
          subst (λ (e : Evaluation). Follows (state_of b) f.path f.v e)
          (sym (eval_of-found set b p (state_of b) called.1)) f.follows

pub law_of_nodes : LawOfNodes
law_of_nodes set opening h is i one = let f = found_at h i one in node_followed set opening h is i one f.0 f.1

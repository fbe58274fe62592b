-- Runs of a book's instances.
use Rattle.std.proofs.Common.{◌≡◌, ℕ, ℤ, List, refl, ap, sym, ◌∙◌, subst}
use Rattle.std.specs.Prelude.{slice_get, Some, option_map}
use Rattle.std.proofs.lemmas.Option.{slice_get-map}
use Rattle.prog_tree.specs.declared.program.Draft.{Draft}
use Rattle.prog_tree.specs.Table.{TableState}
use Rattle.prog_tree.specs.Tree.{program_tree}
use Rattle.prog_run.specs.Looks.{AreFound}
use Rattle.prog_run.specs.View.{RunView, SameBegin, begun}
use Rattle.history_book.specs.Refusals.{IsOfInstance}
use Rattle.history_book.specs.Ticket.{TicketView}
use Rattle.history_book.specs.View.{BookView, new_book, begun_in, next_instance, next_ticket, state_in}

-- a run that was begun as the first instance of a book is the instance's
first_own : (set : Draft) (opening : TableState) (program : ℕ) (args : List ℤ) (run : RunView) → run ≡ begun set.tables.items run.program args →
    slice_get set.programs.items program ≡ Some run.program →
    IsOfInstance (begun_in (new_book set opening) program args) (next_ticket (new_book set opening)) run
first_own set opening program args run begins found = record {
  instance = next_instance (new_book set opening) program args;
  active = refl;
  own = record {
    same = record {
      tables = ap (λ (r : RunView). r.tables) begins;
      program = slice_get-map program_tree set.programs.items program ∙ ap (option_map program_tree) found;
      args = ap (λ (r : RunView). r.args) begins;
    };
    found = subst (λ (r : RunView). AreFound (state_in (begun_in (new_book set opening) program args) 0) r.looks) (sym begins) tt;
  };
}

pub begun_own : (set : Draft) (opening : TableState) (program : ℕ) (args : List ℤ) (old new : BookView) (t : TicketView) (run : RunView) →
    old ≡ new_book set opening → t ≡ next_ticket old → new ≡ begun_in old program args → run ≡ begun set.tables.items run.program args →
    slice_get set.programs.items program ≡ Some run.program → IsOfInstance new t run
begun_own set opening program args old new t run opened ticket after begins found =
    subst (λ v. IsOfInstance v t run) (sym after)
    (subst (λ x. IsOfInstance (begun_in old program args) x run) (sym ticket)
    (subst (λ v. IsOfInstance (begun_in v program args) (next_ticket v) run) (sym opened) (first_own set opening program args run begins found)))

-- a run stays the instance's as long as it looks at its snapshot alone
pub stays_own : (v : BookView) (t : TicketView) (old new : RunView) → (own : IsOfInstance v t old) → SameBegin old new →
    AreFound (state_in v own.instance.start) new.looks → IsOfInstance v t new
stays_own v t old new own same found = record {
  instance = own.instance;
  active = own.active;
  own = record {
    same = record {
      tables = same.tables ∙ own.own.same.tables;
      program = own.own.same.program ∙ ap (λ p. Some (program_tree p)) (sym same.program);
      args = same.args ∙ own.own.same.args;
    };
    found = found;
  };
}

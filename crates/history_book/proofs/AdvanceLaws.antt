-- Runs that were asked again for what they wait.
use Rattle.std.proofs.Common.{◌≡◌, ◌∙◌, Option, Some, None, Ok, IfSome, Result, refl, ap, sym}
use Rattle.std.specs.Option.{option_or}
use Rattle.std.specs.Prelude.{option_map}
use Rattle.std.specs.declared.alloc.AllocError.{AllocError}
use Rattle.prog_tree.specs.declared.deed.End.{End}
use Rattle.prog_tree.specs.Table.{TableState}
use Rattle.prog_run.specs.declared.next.Next.{Next}
use Rattle.prog_run.specs.declared.next.Next.TheVariants.{Get, Scan, Did, Done}
use Rattle.prog_run.specs.Cursor.{BeginsWith}
use Rattle.prog_run.specs.Step.{question_after, deeds_after, changes_after}
use Rattle.prog_run.specs.View.{RunView, IsAdvance, SameBegin, standing_next}
use Rattle.prog_run.proofs.FrontLemmas.{begins_on}
use Rattle.history_book.specs.Runs.{StaysOwn, StepsTo, StopsShort}
use Rattle.history_book.proofs.ReplayLaws.{begun_as_first}

-- a question is no deed
record IsAsking (first old : RunView) : Type 0 where
  deeds : old.deeds ≡ first.deeds
  changes : old.changes ≡ first.changes
  replies : BeginsWith first.replies old.replies
  end : old.end ≡ None

asks : (asking question : Next) (first old : RunView) → question_after asking ≡ Some question → IsAdvance asking first old → IsAsking first old
asks (Get cell) question first old is advance = record { deeds = advance.deeds; changes = advance.changes; replies = advance.replies; end = advance.end }
asks (Scan region) question first old is advance = record { deeds = advance.deeds; changes = advance.changes; replies = advance.replies; end = advance.end }
asks (Did deed) question first old is advance = absurd (cc)
asks (Done end) question first old is advance = absurd (cc)

-- a step behind a question is one from before it
pub steps_again : (asking question next : Next) (first old new : RunView) → question_after asking ≡ Some question → IsAdvance asking first old → StepsTo next old new → StepsTo next first new
steps_again asking question next first old new is advance steps =
    let asked = asks asking question first old is advance in
    record {
      idle = steps.idle;
      deeds = steps.deeds ∙ ap (deeds_after next) asked.deeds;
      changes = steps.changes ∙ ap (changes_after next) asked.changes;
      replies = begins_on new.replies asked.replies steps.replies;
      asked = steps.asked;
      end = steps.end;
    }

-- a run that stays one of its instance behind a question stays so from before it
pub stays_again : (m : TableState) (first old new : RunView) → SameBegin first old → StaysOwn m old new → StaysOwn m first new
stays_again m first old new same own = record { found = own.found; true_run = own.true_run; same = begun_as_first first old new same own.same }

-- a run that asks had not ended
not_over : (asking question : Next) (first old : RunView) (told : Result Next AllocError) → question_after asking ≡ Some question → old.end ≡ None → told ≡ Ok asking →
    IfSome (standing_next first) (λ next. (told ≡ Ok next) × (old ≡ first)) → first.end ≡ None
not_over asking question first old told is none tells repeats = go first.asked first.end refl refl repeats
  where
    go : (a : Option Next) (e : Option End) → first.asked ≡ a → first.end ≡ e → IfSome (option_or a (option_map (λ end. Done end) e)) (λ next. (told ≡ Ok next) × (old ≡ first)) → first.end ≡ None
    go (Some next) e asked ends again = ap (λ (v : RunView). v.end) (sym again.1) ∙ none
    go None (Some end) asked ends again = let one = again.0 in absurd (cc)
    go None None asked ends again = ends

-- a run that stops short behind a question does so from before it
pub stops_again : (asking question : Next) (first old new : RunView) (told : Result Next AllocError) → question_after asking ≡ Some question → told ≡ Ok asking → IsAdvance asking first old →
    IfSome (standing_next first) (λ next. (told ≡ Ok next) × (old ≡ first)) → StopsShort old new → StopsShort first new
stops_again asking question first old new told is tells advance repeats stops =
    let asked = asks asking question first old is advance in
    record {
      deeds = stops.deeds ∙ asked.deeds;
      changes = stops.changes ∙ asked.changes;
      replies = begins_on new.replies asked.replies stops.replies;
      end = stops.end ∙ asked.end ∙ sym (not_over asking question first old told is asked.end tells repeats);
    }

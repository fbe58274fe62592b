-- The lines of a script that do nothing, as they are told.
use Rattle.std.specs.Prelude.{ℕ, ◌≡◌, ◌==◌, ◌<◌, ◌≤◌, ◌+◌, ◌-◌, ◌^◌, ◌⊎◌, ◌||◌, Bool, true, false, List, [], ◌∷◌, ◌++◌, Option, Some, None, codes, drop, if◌then◌else◌, length, min, slice_get}
use Rattle.std.specs.Fmt.{decimal}
use Rattle.text_places.specs.Places.{HasNoLine}
use Rattle.text_places.specs.Listing.{TellsEach}
use Rattle.si_engine.specs.declared.event.Event.{Event}
use Rattle.si_engine.specs.declared.event.Event.TheVariants as event
use Rattle.si_engine.specs.declared.event.Reply.{Reply}
use Rattle.si_engine.specs.declared.event.Reply.TheVariants as reply
use Rattle.run_words.specs.declared.in_input.Part.{Part}
use Rattle.run_words.specs.declared.refusals.Refusals.{Refusals}
use Rattle.run_words.specs.declared.refusals.EventRefusal.{EventRefusal}
use Rattle.run_words.specs.declared.refusals.EventRefusal.TheVariants as refusal
use Rattle.run_words.specs.declared.refusals.Refused.{Refused}
use Rattle.run_words.specs.Limits.{most_told}
use Rattle.run_words.specs.PartPointing.{PointsAtLineIn}

-- memory ran out for the lines
abbrev pub is_lost : Refusals → Bool
is_lost refusals = refusals.is_lost

-- those that are told, in order; none where memory ran out for them
abbrev pub told_lines : Refusals → List Refused
told_lines refusals = if is_lost refusals then [] else refusals.told.items

-- no line is told or counted, and none is lost
abbrev pub TellsNothing : Refusals → Type 0
TellsNothing refusals =
    (told_lines refusals ≡ []) × (refusals.following ≡ 0) × (refusals.more ≡ 0) × (is_lost refusals ≡ false)

abbrev pub line_of : Option Refused → Option ℕ
line_of None = None
line_of (Some refused) = Some refused.line

-- the line in the script of the first that is told
abbrev pub first_told : Refusals → Option ℕ
first_told refusals = line_of (slice_get (told_lines refusals) 0)

-- an event that is answered by this does nothing, and its line may be told
abbrev pub is_refusal : Reply → Bool
is_refusal reply.WrongArguments = true
is_refusal (reply.TooOld floor) = true
is_refusal (reply.TooNew commits) = true
is_refusal reply.Full = true
is_refusal reply.NoSuchInstance = true
is_refusal reply.NotReady = true
is_refusal reply.Ended = true
is_refusal other = false

-- an event names a number at which none can begin
abbrev pub refuses_number : Event → Reply → Bool
refuses_number (event.BeginAt start program args) (reply.TooOld floor) = true
refuses_number (event.BeginAt start program args) (reply.TooNew commits) = true
refuses_number asked answer = false

-- a begin is refused otherwise
abbrev pub refuses_begin : Reply → Bool
refuses_begin reply.WrongArguments = true
refuses_begin reply.Full = true
refuses_begin other = false

-- an instance does not do what is asked of it
abbrev pub refuses_instance : Reply → Bool
refuses_instance reply.NoSuchInstance = true
refuses_instance reply.NotReady = true
refuses_instance reply.Ended = true
refuses_instance other = false

-- an event is refused, but for a number
abbrev pub refuses : Event → Reply → Bool
refuses (event.Begin program args) answer = refuses_begin answer
refuses (event.BeginAt start program args) answer = refuses_begin answer
refuses (event.Step instance) answer = refuses_instance answer
refuses (event.Commit instance) answer = refuses_instance answer
refuses (event.Abort instance) answer = refuses_instance answer
refuses event.Vacuum answer = false

-- an event that is answered by this does nothing
abbrev pub does_nothing : Event → Reply → Bool
does_nothing asked answer = refuses_number asked answer || refuses asked answer

-- an instance that has not begun is asked for something
abbrev pub names_no_instance : Reply → Bool
names_no_instance reply.NoSuchInstance = true
names_no_instance other = false

-- and this is what is told of it
abbrev pub is_of_none : EventRefusal → Bool
is_of_none (refusal.NoInstance instance) = true
is_of_none other = false

-- the lines stay, or one more stands behind them
abbrev pub IsOneMore : (before after : List Refused) → Type 0
IsOneMore before after = (after ≡ before) ⊎ ((refused : Refused) × (after ≡ before ++ refused ∷ []))

-- at most one line more is told, behind those before; where memory runs out for them, none is told any more
abbrev pub TellsOneMore : (before after : Refusals) → Type 0
TellsOneMore before after = IsOneMore (told_lines before) (told_lines after) ⊎ (is_lost after ≡ true)

-- one more, up to the greatest count
abbrev pub one_more : (count : ℕ) → ℕ
one_more count = min (count + 1) (2 ^ 64 - 1)

-- no line is told or counted
abbrev pub CountsNone : (before after : Refusals) → Type 0
CountsNone before after =
    (after.told.items ≡ before.told.items) × (after.following ≡ before.following) × (after.more ≡ before.more)

-- a line is told behind the others, which are fewer than may be
abbrev pub TellsOne : (before after : Refusals) → Type 0
TellsOne before after =
    (length before.told.items < most_told)
    × ((refused : Refused) × (after.told.items ≡ before.told.items ++ refused ∷ []))
    × (after.following ≡ before.following) × (after.more ≡ before.more)

-- a line is counted with those that follow a begin that is refused
abbrev pub CountsFollowing : (before after : Refusals) → Type 0
CountsFollowing before after =
    (after.told.items ≡ before.told.items) × (after.following ≡ one_more before.following) × (after.more ≡ before.more)

-- no line is counted with those
abbrev pub FollowsNoMore : (before after : Refusals) → Type 0
FollowsNoMore before after = after.following ≡ before.following

-- as many lines are told as may be, and one more is counted
abbrev pub CountsFurther : (before after : Refusals) → Type 0
CountsFurther before after =
    (most_told ≤ length before.told.items) × (after.told.items ≡ before.told.items)
    × (after.following ≡ before.following) × (after.more ≡ one_more before.more)

-- a line is told, or counted in one of two ways
abbrev pub IsCountedIn : (before after : Refusals) → Type 0
IsCountedIn before after = TellsOne before after ⊎ (CountsFollowing before after ⊎ CountsFurther before after)

-- one more line is told or counted, unless it is taken for the last one again
abbrev pub CountsOneMore : (before after : Refusals) → Type 0
CountsOneMore before after = ((after.last ≡ before.last) × CountsNone before after) ⊎ IsCountedIn before after

-- what is told stays, and so do the counts; and no line is lost for want of memory
abbrev pub TellsNoMore : (before after : Refusals) → Type 0
TellsNoMore before after =
    (told_lines after ≡ told_lines before) × (after.following ≡ before.following) × (after.more ≡ before.more)
    × (is_lost after ≡ is_lost before)

-- the words point at the front of the line, with its line in the whole input; a line that the part has not is left out
abbrev pub TellsLine : Part → Refused → (words : List ℕ) → Type 0
TellsLine part refused words =
    PointsAtLineIn part (Some refused.line) words ⊎ (HasNoLine part.bytes.now refused.line × (words ≡ []))

-- how many lines name an instance that has not begun
abbrev pub following_text : (count : ℕ) → List ℕ
following_text count =
    if count == 0 then []
    else codes "lines behind it that name an instance which has not begun: " ++ (decimal count ++ codes "\n")

-- how many lines more do nothing
abbrev pub further_text : (count : ℕ) → List ℕ
further_text count =
    if count == 0 then [] else codes "further lines that do nothing: " ++ (decimal count ++ codes "\n")

-- the words tell the first line, then each other one that is told, and how many more there are
abbrev pub TellsRefused : Part → Refusals → (words : List ℕ) → Type 0
TellsRefused part refusals words =
    (line lines : List ℕ) × PointsAtLineIn part (first_told refusals) line
    × TellsEach (TellsLine part) (drop 1 (told_lines refusals)) lines
    × (words ≡ line ++ (lines ++ (following_text refusals.following ++ further_text refusals.more)))

-- Events as short items: how long their list is, and how it grows at the end.
use Rattle.std.proofs.Common.{◌≡◌, ℕ, suc, ◌+◌, List, [], ◌∷◌, ◌++◌, length, Option, Some, None, refl, ap, subst, arith}
use Rattle.std.proofs.lemmas.List.{append-nil, length-append}
use Rattle.si_engine.specs.declared.event.Event.{Event}
use Rattle.si_engine.specs.declared.input.events.Item.{Item}
use Rattle.si_engine.specs.Events.{said_by, before_others, events_by, kept_beside, kept_by}

-- one event more than there are of the others
one_more : (said : Option Event) (others : List Event → List Event) (count n : ℕ) → ((kept : List Event) → count ≡ length kept → length (others kept) ≡ n)
    → (kept : List Event) → kept_beside said + count ≡ length kept → length (before_others said others kept) ≡ suc n
one_more (Some event) others count n same kept h = ap (λ (k : ℕ). suc k) (same kept (omega arith))
one_more None others count n same [] h = absurd (omega arith)
one_more None others count n same (event ∷ kept) h = ap (λ (k : ℕ). suc k) (same kept (omega arith))

-- the events are as many as their items
pub one_each : (items : List Item) (kept : List Event) → kept_by items ≡ length kept → length (events_by items kept) ≡ length items
one_each [] kept h = refl
one_each (item ∷ items) kept h = one_more (said_by item) (events_by items) (kept_by items) (length items) (one_each items) kept h

-- an event stands before others as before those that another one was added to
stays_before : (said : Option Event) (more : List Event) (event : Event) (others longer : List Event → List Event) (count : ℕ)
    → ((kept : List Event) → count ≡ length kept → longer (kept ++ more) ≡ others kept ++ event ∷ [])
    → (kept : List Event) → kept_beside said + count ≡ length kept
    → before_others said longer (kept ++ more) ≡ before_others said others kept ++ event ∷ []
stays_before (Some first) more event others longer count same kept h = ap (λ (es : List Event). first ∷ es) (same kept (omega arith))
stays_before None more event others longer count same [] h = absurd (omega arith)
stays_before None more event others longer count same (first ∷ kept) h = ap (λ (es : List Event). first ∷ es) (same kept (omega arith))

-- an item at the end, with what is kept for it, is one event more
grows : (item : Item) (more : List Event) (event : Event) → events_by (item ∷ []) more ≡ event ∷ []
    → (items : List Item) (kept : List Event) → kept_by items ≡ length kept → events_by (items ++ item ∷ []) (kept ++ more) ≡ events_by items kept ++ event ∷ []
grows item more event one [] [] h = one
grows item more event one [] (first ∷ kept) h = absurd (omega arith)
grows item more event one (first ∷ items) kept h =
    stays_before (said_by first) more event (events_by items) (events_by (items ++ item ∷ [])) (kept_by items) (grows item more event one items) kept h

-- an item that says an event adds it
pub says_one_more : (items : List Item) (kept : List Event) (item : Item) (event : Event) → kept_by items ≡ length kept → said_by item ≡ Some event
    → events_by (items ++ item ∷ []) kept ≡ events_by items kept ++ event ∷ []
says_one_more items kept item event h says =
    subst (λ (k : List Event). events_by (items ++ item ∷ []) k ≡ events_by items kept ++ event ∷ []) (append-nil kept)
    (grows item [] event (ap (λ (s : Option Event). before_others s (events_by []) []) says) items kept h)

-- an item that says none adds the event that is kept for it
pub keeps_one_more : (items : List Item) (kept : List Event) (item : Item) (event : Event) → kept_by items ≡ length kept → said_by item ≡ None
    → events_by (items ++ item ∷ []) (kept ++ event ∷ []) ≡ events_by items kept ++ event ∷ []
keeps_one_more items kept item event h says =
    grows item (event ∷ []) event (ap (λ (s : Option Event). before_others s (events_by []) (event ∷ [])) says) items kept h

-- how many are kept with an item more
count_behind : (items : List Item) (item : Item) → kept_by (items ++ item ∷ []) ≡ kept_by items + kept_beside (said_by item)
count_behind [] item = omega arith
count_behind (first ∷ items) item = let same = count_behind items item in omega arith

pub counts_said : (items : List Item) (n : ℕ) (item : Item) (event : Event) → kept_by items ≡ n → said_by item ≡ Some event → kept_by (items ++ item ∷ []) ≡ n
counts_said items n item event h says =
    let one : kept_beside (said_by item) ≡ 0 = ap kept_beside says in
    let all = count_behind items item in
    omega arith

pub counts_kept : (items : List Item) (kept : List Event) (item : Item) (event : Event) → kept_by items ≡ length kept → said_by item ≡ None
    → kept_by (items ++ item ∷ []) ≡ length (kept ++ event ∷ [])
counts_kept items kept item event h says =
    let one : kept_beside (said_by item) ≡ 1 = ap kept_beside says in
    let all = count_behind items item in
    let longer = length-append kept (event ∷ []) in
    omega arith

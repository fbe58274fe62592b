-- Ranges by the numbers of their statements, and exposed reads that no keep covers.
use Rattle.std.proofs.Common.{◌≡◌, ◌↔◌, ℕ, zero, suc, ◌+◌, ◌<◌, ◌≤◌, ◌⊎◌, inl, inr, Bool, true, false, not, List, [], ◌∷◌, ◌++◌, length, take, get_or, refl, sym, subst, ap, ◌∙◌, arith, Contains, length-append, get_or-append-add}
use Rattle.std.specs.Prelude.{Option, Some, None, is_some, slice_get, All}
use Rattle.std.proofs.lemmas.Bool.{false≢true}
use Rattle.std.proofs.lemmas.List.{take_all, append_assoc}
use Rattle.std.proofs.lemmas.List.Elements.{Contains-get_or}
use Rattle.std.proofs.lemmas.Option.{slice_get_within, get_or_from_slice_get, slice_get-get_or}
use Rattle.prog_tree.specs.Syntax.{StatementTree, BlockTree, BlockEnd, Then, Branch, Each, ProgramTree, DraftTree}
use Rattle.prog_tree.proofs.Elements.{contains_nothing}
use Rattle.prog_check.specs.Paths.{statement_count, paths_of}
use Rattle.prog_check.specs.Uses.{as_count}
use Rattle.prog_check.specs.declared.path.Access.{Access}
use Rattle.prog_check.specs.declared.path.Path.{Path}
use Rattle.prog_paths.specs.StaticGraph.{QuestionNumbers, IsAccessOf}
use Rattle.prog_paths.specs.declared.accesses.questions.Question.{Question}
use Rattle.prog_paths.proofs.Marked.{same_access}
use Rattle.repair_laws.specs.declared.plan.Pair.{Pair}
use Rattle.repair_laws.specs.Keys.{ExposedOf}
use Rattle.repair_laws.specs.Refusals.{IsStatementAt, IsRange, IsRangeAt, HasUnknownKey, HasRangeRead, HasUnknownRead, MeetInBody, HasBodyRead}
use Rattle.si_repair.specs.Exposed.{AreExposed, HasRead, HasBoth}
use Rattle.si_repair.specs.Obstacles.{IsObstacle, range_list, program_ranges, Hinders, HasHindered, IsFirstHindered, IsHindered, IsRangeIn}
use Rattle.si_repair.specs.declared.repairs.obstacles.Obstacle.{Obstacle}
use Rattle.si_repair.specs.declared.repairs.obstacles.Obstacle.TheVariants.{RangeRead, UnknownKey, BodyRead}
use Rattle.si_repair.proofs.Exposed.{among_first}

-- ---- statements

-- a statement of a block that is a range
record RangeFrom (first : ℕ) (b : BlockTree) (number : ℕ) : Type 0 where
  statement : StatementTree
  at : IsStatementAt first b number statement
  range : IsRange statement

list-length : (b : BlockTree) → length (range_list b) ≡ statement_count b
list-length BlockEnd = refl
list-length (Then st rest) = let r = list-length rest in omega (arith, r)
list-length (Branch test a b rest) =
    let x = list-length a in
    let y = list-length b in
    let z = list-length rest in
    omega (arith, x, y, z, length-append (range_list a) (range_list b ++ range_list rest), length-append (range_list b) (range_list rest))
list-length (Each l body rest) =
    let x = list-length body in
    let y = list-length rest in
    omega (arith, x, y, length-append (range_list body) (range_list rest))

-- what two lists say together the first says, or the second
either_listed : (xs ys : List Bool) (n : ℕ) → get_or (xs ++ ys) n false ≡ true → ((n < length xs) × (get_or xs n false ≡ true)) ⊎ ((k : ℕ) × (n ≡ length xs + k) × (get_or ys k false ≡ true))
either_listed [] ys n h = inr (n, omega arith, h)
either_listed (x ∷ xs) ys zero h = inl (omega arith, h)
either_listed (x ∷ xs) ys (suc n) h = go (either_listed xs ys n h)
  where
    go : ((n < length xs) × (get_or xs n false ≡ true)) ⊎ ((k : ℕ) × (n ≡ length xs + k) × (get_or ys k false ≡ true)) → ((suc n < length (x ∷ xs)) × (get_or xs n false ≡ true)) ⊎ ((k : ℕ) × (suc n ≡ length (x ∷ xs) + k) × (get_or ys k false ≡ true))
    go (inl k) = let less = k.0 in inl (omega (arith, less), k.1)
    go (inr k) = let is = k.1 in inr (k.0, omega (arith, is), k.2)

listed_left : (xs ys : List Bool) (n : ℕ) → get_or xs n false ≡ true → get_or (xs ++ ys) n false ≡ true
listed_left [] ys n h = absurd (false≢true h)
listed_left (x ∷ xs) ys zero h = h
listed_left (x ∷ xs) ys (suc n) h = listed_left xs ys n h

listed_right : (xs ys : List Bool) (n : ℕ) → get_or ys n false ≡ true → get_or (xs ++ ys) (length xs + n) false ≡ true
listed_right xs ys n h = get_or-append-add xs ys n false ∙ h

-- the list of a branch, pushed one part after the other
pub branch_ranges : (old one two three xs ys zs : List Bool) → one ≡ old ++ false ∷ [] → two ≡ one ++ xs → three ≡ two ++ ys → three ++ zs ≡ old ++ (false ∷ (xs ++ (ys ++ zs)))
branch_ranges old one two three xs ys zs a b c =
    ap (λ (l : List Bool). l ++ zs) (c ∙ ap (λ (l : List Bool). l ++ ys) (b ∙ ap (λ (l : List Bool). l ++ xs) a)) ∙ simp append_assoc

-- the same of an `each`
pub each_ranges : (old one two xs ys : List Bool) → one ≡ old ++ true ∷ [] → two ≡ one ++ xs → two ++ ys ≡ old ++ (true ∷ (xs ++ ys))
each_ranges old one two xs ys a b = ap (λ (l : List Bool). l ++ ys) (b ∙ ap (λ (l : List Bool). l ++ xs) a) ∙ simp append_assoc

-- what is listed as a range is one at its number
statement-from_list : (first : ℕ) (b : BlockTree) (n : ℕ) → get_or (range_list b) n false ≡ true → RangeFrom first b (first + n)
statement-from_list first BlockEnd n h = absurd (false≢true h)
statement-from_list first (Then st rest) zero h =
    let e : first + 0 ≡ first = omega arith in
    record { statement = st; at = inl (e, refl); range = h }
statement-from_list first (Then st rest) (suc n) h =
    let e : first + 1 + n ≡ first + suc n = omega arith in
    let m = subst (λ (k : ℕ). RangeFrom (first + 1) rest k) e (statement-from_list (first + 1) rest n h) in
    record { statement = m.statement; at = inr m.at; range = m.range }
statement-from_list first (Branch test a b rest) zero h = absurd (false≢true h)
statement-from_list first (Branch test a b rest) (suc n) h =
    go (either_listed (range_list a) (range_list b ++ range_list rest) n h)
    (λ k i. statement-from_list (first + 1) a k i)
    (λ k i. statement-from_list (first + 1 + statement_count a) b k i)
    (λ k i. statement-from_list (first + 1 + statement_count a + statement_count b) rest k i)
  where
    in_first : RangeFrom (first + 1) a (first + suc n) → RangeFrom first (Branch test a b rest) (first + suc n)
    in_first m = record { statement = m.statement; at = inl m.at; range = m.range }

    in_second : RangeFrom (first + 1 + statement_count a) b (first + suc n) → RangeFrom first (Branch test a b rest) (first + suc n)
    in_second m = record { statement = m.statement; at = inr (inl m.at); range = m.range }

    in_rest : RangeFrom (first + 1 + statement_count a + statement_count b) rest (first + suc n) → RangeFrom first (Branch test a b rest) (first + suc n)
    in_rest m = record { statement = m.statement; at = inr (inr m.at); range = m.range }

    behind : (k : ℕ) → n ≡ length (range_list a) + k
        → ((i : ℕ) → get_or (range_list b) i false ≡ true → RangeFrom (first + 1 + statement_count a) b (first + 1 + statement_count a + i))
        → ((i : ℕ) → get_or (range_list rest) i false ≡ true → RangeFrom (first + 1 + statement_count a + statement_count b) rest (first + 1 + statement_count a + statement_count b + i))
        → ((k < length (range_list b)) × (get_or (range_list b) k false ≡ true)) ⊎ ((i : ℕ) × (k ≡ length (range_list b) + i) × (get_or (range_list rest) i false ≡ true))
        → RangeFrom first (Branch test a b rest) (first + suc n)
    behind k is second last (inl i) =
        let sizes = list-length a in
        let e : first + 1 + statement_count a + k ≡ first + suc n = omega (arith, is, sizes) in
        in_second (subst (λ (m : ℕ). RangeFrom (first + 1 + statement_count a) b m) e (second k i.1))
    behind k is second last (inr i) =
        let sizes = list-length a in
        let more = list-length b in
        let at = i.1 in
        let e : first + 1 + statement_count a + statement_count b + i.0 ≡ first + suc n = omega (arith, is, sizes, more, at) in
        in_rest (subst (λ (m : ℕ). RangeFrom (first + 1 + statement_count a + statement_count b) rest m) e (last i.0 i.2))

    go : ((n < length (range_list a)) × (get_or (range_list a) n false ≡ true)) ⊎ ((k : ℕ) × (n ≡ length (range_list a) + k) × (get_or (range_list b ++ range_list rest) k false ≡ true))
        → ((k : ℕ) → get_or (range_list a) k false ≡ true → RangeFrom (first + 1) a (first + 1 + k))
        → ((k : ℕ) → get_or (range_list b) k false ≡ true → RangeFrom (first + 1 + statement_count a) b (first + 1 + statement_count a + k))
        → ((k : ℕ) → get_or (range_list rest) k false ≡ true → RangeFrom (first + 1 + statement_count a + statement_count b) rest (first + 1 + statement_count a + statement_count b + k))
        → RangeFrom first (Branch test a b rest) (first + suc n)
    go (inl i) one two three =
        let e : first + 1 + n ≡ first + suc n = omega arith in
        in_first (subst (λ (m : ℕ). RangeFrom (first + 1) a m) e (one n i.1))
    go (inr i) one two three = behind i.0 i.1 two three (either_listed (range_list b) (range_list rest) i.0 i.2)
statement-from_list first (Each l body rest) zero h =
    let e : first + 0 ≡ first = omega arith in
    record { statement = as_count l; at = inl (e, refl); range = refl }
statement-from_list first (Each l body rest) (suc n) h =
    go (either_listed (range_list body) (range_list rest) n h)
    (λ k i. statement-from_list (first + 1) body k i)
    (λ k i. statement-from_list (first + 1 + statement_count body) rest k i)
  where
    in_body : RangeFrom (first + 1) body (first + suc n) → RangeFrom first (Each l body rest) (first + suc n)
    in_body m = record { statement = m.statement; at = inr (inl m.at); range = m.range }

    in_rest : RangeFrom (first + 1 + statement_count body) rest (first + suc n) → RangeFrom first (Each l body rest) (first + suc n)
    in_rest m = record { statement = m.statement; at = inr (inr m.at); range = m.range }

    go : ((n < length (range_list body)) × (get_or (range_list body) n false ≡ true)) ⊎ ((k : ℕ) × (n ≡ length (range_list body) + k) × (get_or (range_list rest) k false ≡ true))
        → ((k : ℕ) → get_or (range_list body) k false ≡ true → RangeFrom (first + 1) body (first + 1 + k))
        → ((k : ℕ) → get_or (range_list rest) k false ≡ true → RangeFrom (first + 1 + statement_count body) rest (first + 1 + statement_count body + k))
        → RangeFrom first (Each l body rest) (first + suc n)
    go (inl i) one two =
        let e : first + 1 + n ≡ first + suc n = omega arith in
        in_body (subst (λ (m : ℕ). RangeFrom (first + 1) body m) e (one n i.1))
    go (inr i) one two =
        let sizes = list-length body in
        let at = i.1 in
        let e : first + 1 + statement_count body + i.0 ≡ first + suc n = omega (arith, sizes, at) in
        in_rest (subst (λ (m : ℕ). RangeFrom (first + 1 + statement_count body) rest m) e (two i.0 i.2))

-- a range at its number is listed as one
abbrev IsListedFrom : ℕ → BlockTree → ℕ → Type 0
IsListedFrom first b number = (k : ℕ) × (number ≡ first + k) × (get_or (range_list b) k false ≡ true)

list-from_statement : (first : ℕ) (b : BlockTree) (number : ℕ) (st : StatementTree) → IsStatementAt first b number st → IsRange st → IsListedFrom first b number
list-from_statement first BlockEnd number st h r = absurd h
list-from_statement first (Then t rest) number st (inl h) r =
    let is = h.0 in
    (0, omega (arith, is), subst IsRange h.1 r)
list-from_statement first (Then t rest) number st (inr h) r =
    let m = list-from_statement (first + 1) rest number st h r in
    let is = m.1 in
    (suc m.0, omega (arith, is), m.2)
list-from_statement first (Branch test a b rest) number st (inl h) r =
    let m = list-from_statement (first + 1) a number st h r in
    let is = m.1 in
    (suc m.0, omega (arith, is), listed_left (range_list a) (range_list b ++ range_list rest) m.0 m.2)
list-from_statement first (Branch test a b rest) number st (inr (inl h)) r =
    let m = list-from_statement (first + 1 + statement_count a) b number st h r in
    let is = m.1 in
    let sizes = list-length a in
    (suc (length (range_list a) + m.0), omega (arith, is, sizes), listed_right (range_list a) (range_list b ++ range_list rest) m.0 (listed_left (range_list b) (range_list rest) m.0 m.2))
list-from_statement first (Branch test a b rest) number st (inr (inr h)) r =
    let m = list-from_statement (first + 1 + statement_count a + statement_count b) rest number st h r in
    let is = m.1 in
    let sizes = list-length a in
    let more = list-length b in (
      suc (length (range_list a) + (length (range_list b) + m.0)),
      omega (arith, is, sizes, more),
      listed_right (range_list a) (range_list b ++ range_list rest) (length (range_list b) + m.0) (listed_right (range_list b) (range_list rest) m.0 m.2),
    )
list-from_statement first (Each l body rest) number st (inl h) r =
    let is = h.0 in
    (0, omega (arith, is), refl)
list-from_statement first (Each l body rest) number st (inr (inl h)) r =
    let m = list-from_statement (first + 1) body number st h r in
    let is = m.1 in
    (suc m.0, omega (arith, is), listed_left (range_list body) (range_list rest) m.0 m.2)
list-from_statement first (Each l body rest) number st (inr (inr h)) r =
    let m = list-from_statement (first + 1 + statement_count body) rest number st h r in
    let is = m.1 in
    let sizes = list-length body in
    (suc (length (range_list body) + m.0), omega (arith, is, sizes), listed_right (range_list body) (range_list rest) m.0 m.2)

-- ---- the statement of a number

module _ (draft : DraftTree) (program number : ℕ) where
  pub range_at-from_list : (o : Option ProgramTree) → slice_get draft.programs program ≡ o → get_or (program_ranges o) number false ≡ true → IsRangeAt draft program number
  range_at-from_list None at h = absurd (false≢true h)
  range_at-from_list (Some p) at h =
      let e : 0 + number ≡ number = omega arith in
      let m = subst (λ (k : ℕ). RangeFrom 0 p.body k) e (statement-from_list 0 p.body number h) in
      (p, at, m.statement, m.at, m.range)

  pub list-from_range_at : IsRangeAt draft program number → get_or (program_ranges (slice_get draft.programs program)) number false ≡ true
  list-from_range_at (p, at, st, here, range) =
      let m = list-from_statement 0 p.body number st here range in
      let is = m.1 in
      let same : m.0 ≡ number = omega (arith, is) in
      subst (λ (o : Option ProgramTree). get_or (program_ranges o) number false ≡ true) (sym at) (subst (λ (k : ℕ). get_or (range_list p.body) k false ≡ true) same m.2)

-- ---- reads among questions

pub in_body-sure : (sure : Bool) → (not sure ≡ true) ↔ (sure ≡ false)
in_body-sure true = (λ h. absurd (false≢true h), λ h. absurd (false≢true (sym h)))
in_body-sure false = (λ h. refl, λ h. refl)

module _ (nodes : List Path) (ranges : ℕ → Type 0) (obstacle : Obstacle) (qs : List Question) where
  pub hindered-none : HasHindered nodes ranges obstacle (take 0 qs) → ⊥
  hindered-none h = contains_nothing h.0 h.1

  pub hindered-all : (n : ℕ) → length qs ≤ n → (HasHindered nodes ranges obstacle (take n qs) → ⊥) → HasHindered nodes ranges obstacle qs → ⊥
  hindered-all n le before h = before (subst (λ (l : List Question). HasHindered nodes ranges obstacle l) (sym (take_all n qs le)) h)

  -- there is one just where a first one is found
  pub hindered-some : (o : Option Question) → IsFirstHindered nodes ranges obstacle qs o → (is_some o ≡ true) ↔ HasHindered nodes ranges obstacle qs
  hindered-some None none = (λ h. absurd (false≢true h), λ h. absurd (none h))
  hindered-some (Some q) (n, at, own, before) =
      let listed = subst (λ (p : Question). Contains qs p) (get_or_from_slice_get qs n q q at) (Contains-get_or qs n q (slice_get_within qs n q at)) in
      (λ h. (q, listed, own), λ h. refl)

  module _ (n : ℕ) (d : Question) (lt : n < length qs) (read other : Access) (at_read : IsAccessOf nodes (get_or qs n d).x (get_or qs n d).a read) (at_other : IsAccessOf nodes (get_or qs n d).y (get_or qs n d).b other) (before : HasHindered nodes ranges obstacle (take n qs) → ⊥) where
    pub hindered-found : Hinders obstacle ranges read other → IsFirstHindered nodes ranges obstacle qs (Some (get_or qs n d))
    hindered-found h = (n, slice_get-get_or qs n d lt, record { read = read; other = other; at_read = at_read; at_other = at_other; hinders = h }, before)

    pub hindered-more : (Hinders obstacle ranges read other → ⊥) → HasHindered nodes ranges obstacle (take (n + 1) qs) → ⊥
    hindered-more not_here h = go (among_first n qs d h.0 lt h.1)
      where
        go : Contains (take n qs) h.0 ⊎ (get_or qs n d ≡ h.0) → ⊥
        go (inl k) = before (h.0, k, h.2)
        go (inr k) =
            let own_read = subst (λ (q : Question). IsAccessOf nodes q.x q.a h.2.read) (sym k) h.2.at_read in
            let own_other = subst (λ (q : Question). IsAccessOf nodes q.y q.b h.2.other) (sym k) h.2.at_other in
            let same_read = same_access nodes (get_or qs n d).x (get_or qs n d).a h.2.read read own_read at_read in
            let same_other = same_access nodes (get_or qs n d).y (get_or qs n d).b h.2.other other own_other at_other in
            not_here (subst (λ (a : Access). Hinders obstacle ranges read a) same_other (subst (λ (a : Access). Hinders obstacle ranges a h.2.other) same_read h.2.hinders))

-- ranges that are told alike hinder alike
module _ (nodes : List Path) where
  hinders-alike : (P Q : ℕ → Type 0) → ((n : ℕ) → P n → Q n) → (obstacle : Obstacle) (read other : Access) → Hinders obstacle P read other → Hinders obstacle Q read other
  hinders-alike P Q more RangeRead read other h = more read.place h
  hinders-alike P Q more UnknownKey read other h = h
  hinders-alike P Q more BodyRead read other h = h

  hindered-alike : (P Q : ℕ → Type 0) → ((n : ℕ) → P n → Q n) → (obstacle : Obstacle) (q : Question) → IsHindered nodes P obstacle q → IsHindered nodes Q obstacle q
  hindered-alike P Q more obstacle q h = record {
    read = h.read;
    other = h.other;
    at_read = h.at_read;
    at_other = h.at_other;
    hinders = hinders-alike P Q more obstacle h.read h.other h.hinders;
  }

  pub first-alike : (P Q : ℕ → Type 0) → ((n : ℕ) → P n → Q n) → ((n : ℕ) → Q n → P n) → (obstacle : Obstacle) (qs : List Question) (o : Option Question) → IsFirstHindered nodes P obstacle qs o → IsFirstHindered nodes Q obstacle qs o
  first-alike P Q more less obstacle qs None none = λ h. none (h.0, h.1, hindered-alike Q P less obstacle h.0 h.2)
  first-alike P Q more less obstacle qs (Some q) (n, at, own, before) =
      (n, at, hindered-alike P Q more obstacle q own, λ h. before (h.0, h.1, hindered-alike Q P less obstacle h.0 h.2))

-- ---- obstacles of a pair

pub HasRead-each : (nodes : List Path) (pair : Pair) (qs : List Question) → AreExposed nodes pair qs → All (λ (q : Question). HasRead nodes q) qs
HasRead-each nodes pair qs exposed k d lt =
    let o = exposed.only (get_or qs k d) (Contains-get_or qs k d lt) in
    (o.0.question.mine, subst (λ (r : QuestionNumbers). IsAccessOf nodes r.x r.a o.0.question.mine) o.1 o.0.question.asked.at_mine)

pub HasBoth-each : (nodes : List Path) (pair : Pair) (qs : List Question) → AreExposed nodes pair qs → All (λ (q : Question). HasBoth nodes q) qs
HasBoth-each nodes pair qs exposed k d lt =
    let o = exposed.only (get_or qs k d) (Contains-get_or qs k d lt) in (
      (o.0.question.mine, subst (λ (r : QuestionNumbers). IsAccessOf nodes r.x r.a o.0.question.mine) o.1 o.0.question.asked.at_mine),
      (o.0.question.theirs, subst (λ (r : QuestionNumbers). IsAccessOf nodes r.y r.b o.0.question.theirs) o.1 o.0.question.asked.at_theirs),
    )

module _ (draft : DraftTree) (nodes : List Path) (is : nodes ≡ paths_of draft) (pair : Pair) (qs : List Question) (exposed : AreExposed nodes pair qs) where
  -- an exposed question of the pair that an obstacle hinders
  of_hindered : (ranges : ℕ → Type 0) (obstacle : Obstacle) → HasHindered nodes ranges obstacle qs → (e : ExposedOf nodes pair) × Hinders obstacle ranges e.question.mine e.question.theirs
  of_hindered ranges obstacle h =
      let o = exposed.only h.0 h.1 in
      let w = h.2 in
      let mine = subst (λ (r : QuestionNumbers). IsAccessOf nodes r.x r.a o.0.question.mine) o.1 o.0.question.asked.at_mine in
      let theirs = subst (λ (r : QuestionNumbers). IsAccessOf nodes r.y r.b o.0.question.theirs) o.1 o.0.question.asked.at_theirs in
      let same_read = same_access nodes h.0.x h.0.a o.0.question.mine w.read mine w.at_read in
      let same_other = same_access nodes h.0.y h.0.b o.0.question.theirs w.other theirs w.at_other in
      (o.0, subst (λ (a : Access). Hinders obstacle ranges o.0.question.mine a) (sym same_other) (subst (λ (a : Access). Hinders obstacle ranges a w.other) (sym same_read) w.hinders))

  hindered_of : (ranges : ℕ → Type 0) (obstacle : Obstacle) (e : ExposedOf nodes pair) → Hinders obstacle ranges e.question.mine e.question.theirs → HasHindered nodes ranges obstacle qs
  hindered_of ranges obstacle e h =
      let q = exposed.each e in (
        q.0,
        q.1,
        record {
          read = e.question.mine;
          other = e.question.theirs;
          at_read = subst (λ (r : QuestionNumbers). IsAccessOf nodes r.x r.a e.question.mine) q.2 e.question.asked.at_mine;
          at_other = subst (λ (r : QuestionNumbers). IsAccessOf nodes r.y r.b e.question.theirs) q.2 e.question.asked.at_theirs;
          hinders = h;
        },
      )

  module _ (list : List Bool) (list_is : list ≡ program_ranges (slice_get draft.programs pair.from)) where
    abbrev RangeReadOf : List Path → Type 0
    RangeReadOf ns = (e : ExposedOf ns pair) × IsRangeAt draft pair.from e.question.mine.place

    range-from_list : HasHindered nodes (IsRangeIn list) RangeRead qs → HasRangeRead draft pair
    range-from_list h =
        let o = of_hindered (IsRangeIn list) RangeRead h in
        let place = o.0.question.mine.place in
        let r = range_at-from_list draft pair.from place (slice_get draft.programs pair.from) refl (subst (λ (m : List Bool). get_or m place false ≡ true) list_is o.1) in
        subst RangeReadOf is (o.0, r)

    list-from_range : HasRangeRead draft pair → HasHindered nodes (IsRangeIn list) RangeRead qs
    list-from_range h = go (subst RangeReadOf (sym is) h)
      where
        go : RangeReadOf nodes → HasHindered nodes (IsRangeIn list) RangeRead qs
        go (e, range) =
            let place = e.question.mine.place in
            hindered_of (IsRangeIn list) RangeRead e
            (subst (λ (m : List Bool). get_or m place false ≡ true) (sym list_is) (list-from_range_at draft pair.from place range))

  abbrev UnknownReadOf : List Path → Type 0
  UnknownReadOf ns = (e : ExposedOf ns pair) × HasUnknownKey e.question.mine

  unknown-from_reads : (ranges : ℕ → Type 0) → HasHindered nodes ranges UnknownKey qs → HasUnknownRead draft pair
  unknown-from_reads ranges h = subst UnknownReadOf is (of_hindered ranges UnknownKey h)

  reads-from_unknown : (ranges : ℕ → Type 0) → HasUnknownRead draft pair → HasHindered nodes ranges UnknownKey qs
  reads-from_unknown ranges h = let o = subst UnknownReadOf (sym is) h in hindered_of ranges UnknownKey o.0 o.1

  abbrev BodyReadOf : List Path → Type 0
  BodyReadOf ns = (e : ExposedOf ns pair) × MeetInBody e.question.mine e.question.theirs

  body-from_meets : (ranges : ℕ → Type 0) → HasHindered nodes ranges BodyRead qs → HasBodyRead draft pair
  body-from_meets ranges h = subst BodyReadOf is (of_hindered ranges BodyRead h)

  meets-from_body : (ranges : ℕ → Type 0) → HasBodyRead draft pair → HasHindered nodes ranges BodyRead qs
  meets-from_body ranges h = let o = subst BodyReadOf (sym is) h in hindered_of ranges BodyRead o.0 o.1

  -- what is found first is the obstacle
  module _ (list : List Bool) (are : list ≡ program_ranges (slice_get draft.programs pair.from)) where
    abbrev pub IsFound : Obstacle → Type 0
    IsFound obstacle = HasHindered nodes (IsRangeIn list) obstacle qs

    pub IsObstacle-range : IsFound RangeRead → IsObstacle draft pair (Some RangeRead)
    IsObstacle-range range = range-from_list list are range

    pub IsObstacle-unknown : (IsFound RangeRead → ⊥) → IsFound UnknownKey → IsObstacle draft pair (Some UnknownKey)
    IsObstacle-unknown no_range unknown = (λ h. no_range (list-from_range list are h), unknown-from_reads (IsRangeIn list) unknown)

    pub IsObstacle-body : (IsFound RangeRead → ⊥) → (IsFound UnknownKey → ⊥) → IsFound BodyRead → IsObstacle draft pair (Some BodyRead)
    IsObstacle-body no_range no_unknown meets =
        (λ h. no_range (list-from_range list are h), λ h. no_unknown (reads-from_unknown (IsRangeIn list) h), body-from_meets (IsRangeIn list) meets)

    pub IsObstacle-none : (IsFound RangeRead → ⊥) → (IsFound UnknownKey → ⊥) → (IsFound BodyRead → ⊥) → IsObstacle draft pair None
    IsObstacle-none no_range no_unknown no_meets =
        (λ h. no_range (list-from_range list are h), λ h. no_unknown (reads-from_unknown (IsRangeIn list) h), λ h. no_meets (meets-from_body (IsRangeIn list) h))

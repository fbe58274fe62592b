-- The accesses of a program's paths, and the exposed questions between those of two programs.
use Rattle.std.proofs.Common.{◌≡◌, ◌↔◌, ℕ, zero, suc, ◌+◌, ◌<◌, ◌⊎◌, inl, inr, ◌==◌, Bool, true, false, List, [], ◌∷◌, ◌++◌, length, take, get_or, refl, sym, subst, ap, ◌∙◌, arith, Contains}
use Rattle.std.specs.Prelude.{Some, slice_get, All, if◌then◌else◌}
use Rattle.std.proofs.lemmas.Bool.{eq-eqb, eqb-true}
use Rattle.std.proofs.lemmas.List.{take_more, append-nil}
use Rattle.std.proofs.lemmas.List.Elements.{Contains-append_left, Contains-append_right, Contains-append_cases, Contains-push, Contains-push_cases, Contains-get_or, All-contains}
use Rattle.std.proofs.lemmas.Option.{none-some, same_Some}
use Rattle.prog_check.specs.declared.path.Access.{Access}
use Rattle.prog_check.specs.declared.path.Path.{Path}
use Rattle.prog_paths.specs.StaticGraph.{AsksOf}
use Rattle.prog_paths.specs.declared.accesses.places.Placed.{Placed}
use Rattle.prog_paths.specs.declared.accesses.questions.Question.{Question}
use Rattle.prog_paths.specs.Questions.{asks, numbers_of, question_between, asked_by, asked_among, questions_of}
use Rattle.prog_paths.specs.Places.{IsAt, placed_from, all_from, accesses_by, program_from}
use Rattle.prog_paths.proofs.Questions.{placed, all_places_stand, if_yes, asked_by-append, asked_among-append}
use Rattle.prog_tree.proofs.Elements.{IsMember, contains_from_member, member_left, member_right, contains_only, contains_itself, contains_nothing}
use Rattle.prog_paths.proofs.Membership.{asks-from_Asks, in_node}
use Rattle.conflict_pairs.specs.Verdicts.{TellsExposed}
use Rattle.repair_laws.specs.declared.plan.Pair.{Pair}
use Rattle.repair_laws.specs.Striking.{IsOfProgram}
use Rattle.repair_laws.specs.Keys.{ExposedOf}
use Rattle.si_repair.specs.Exposed.{IsPart, AreExposed, ArePlacesOf, ArePlacesOfPair, MayMiss, IsExposedTo, IsExposedOf, AreExposedAmong}
use Rattle.si_repair.proofs.Parts.{part-none, part-whole, part-append, part-contains, part-trans, part-among}

-- ---- elements

-- an element among the first ones is one of the list
pub among_first : {A : Type 0} (n : ℕ) (xs : List A) (d x : A) → n < length xs → Contains (take (n + 1) xs) x → Contains (take n xs) x ⊎ (get_or xs n d ≡ x)
among_first {A = A} n xs d x lt c = Contains-push_cases (take n xs) (get_or xs n d) x (subst (λ (l : List A). Contains l x) (take_more xs n d lt) c)

pub still_first : {A : Type 0} (n : ℕ) (xs : List A) (d x : A) → n < length xs → Contains (take n xs) x → Contains (take (n + 1) xs) x
still_first {A = A} n xs d x lt c = subst (λ (l : List A). Contains l x) (sym (take_more xs n d lt)) (Contains-append_left (take n xs) (get_or xs n d ∷ []) x c)

pub last_first : {A : Type 0} (n : ℕ) (xs : List A) (d : A) → n < length xs → Contains (take (n + 1) xs) (get_or xs n d)
last_first {A = A} n xs d lt = subst (λ (l : List A). Contains l (get_or xs n d)) (sym (take_more xs n d lt)) (Contains-push (take n xs) (get_or xs n d))

-- ---- the accesses of a program

own_or_none : (b : Bool) (n : ℕ) (xs : List Access) → IsPart (placed_from n 0 xs) (placed_from n 0 (if b then xs else []))
own_or_none true n xs = part-whole (placed_from n 0 xs)
own_or_none false n xs = part-none (placed_from n 0 xs)

own_part : (program n : ℕ) (rest : List Path) → IsPart (all_from n rest) (program_from program n rest)
own_part program n [] = refl
own_part program n (path ∷ rest) =
    part-append (placed_from n 0 path.accesses) (all_from (n + 1) rest) (placed_from n 0 (accesses_by program path)) (program_from program (n + 1) rest)
    (own_or_none (path.program == program) n path.accesses) (own_part program (n + 1) rest)

node_of : (n k : ℕ) (xs : List Access) (p : Placed) → Contains (placed_from n k xs) p → p.node ≡ n
node_of n k [] p c = absurd (contains_nothing p c)
node_of n k (x ∷ xs) p c = go (Contains-append_cases (placed n k x ∷ []) (placed_from n (k + 1) xs) p c) (λ i. node_of n (k + 1) xs p i)
  where
    go : Contains (placed n k x ∷ []) p ⊎ Contains (placed_from n (k + 1) xs) p → (Contains (placed_from n (k + 1) xs) p → p.node ≡ n) → p.node ≡ n
    go (inl i) later = ap (λ (q : Placed). q.node) (sym (contains_only (placed n k x) p i))
    go (inr i) later = later i

-- an access is on a path of the program, which stands among the nodes from a number on
abbrev IsOwnAmong : (program n : ℕ) → List Path → Placed → Type 0
IsOwnAmong program n rest p = (i : ℕ) × (path : Path) × (slice_get rest i ≡ Some path) × (path.program ≡ program) × (p.node ≡ n + i)

of_own : (b : Bool) (n : ℕ) (xs : List Access) (p : Placed) → Contains (placed_from n 0 (if b then xs else [])) p → (b ≡ true) × (p.node ≡ n)
of_own true n xs p c = (refl, node_of n 0 xs p c)
of_own false n xs p c = absurd (contains_nothing p c)

own_among : (program n : ℕ) (rest : List Path) (p : Placed) → Contains (program_from program n rest) p → IsOwnAmong program n rest p
own_among program n [] p c = absurd (contains_nothing p c)
own_among program n (path ∷ rest) p c =
    go (Contains-append_cases (placed_from n 0 (accesses_by program path)) (program_from program (n + 1) rest) p c) (λ i. own_among program (n + 1) rest p i)
  where
    go : Contains (placed_from n 0 (accesses_by program path)) p ⊎ Contains (program_from program (n + 1) rest) p → (Contains (program_from program (n + 1) rest) p → IsOwnAmong program (n + 1) rest p) → IsOwnAmong program n (path ∷ rest) p
    go (inl i) later =
        let here = of_own (path.program == program) n path.accesses p i in
        let node = here.1 in
        (zero, path, refl, eqb-true path.program program here.0, omega (arith, node))
    go (inr i) later =
        let w = later i in
        let node = w.4 in
        (suc w.0, w.1, w.2, w.3, omega (arith, node))

in_own : (program n : ℕ) (rest : List Path) (i : ℕ) (path : Path) (k : ℕ) (a : Access) → slice_get rest i ≡ Some path → path.program ≡ program → slice_get path.accesses k ≡ Some a → IsMember (placed (n + i) k a) (program_from program n rest)
in_own program n [] i path k a e own f = absurd (none-some path e)
in_own program n (p ∷ rest) zero path k a e own f =
    let z : n ≡ n + 0 = omega arith in
    let y : 0 + k ≡ k = omega arith in
    let same = same_Some p path e in
    let mine : accesses_by program p ≡ path.accesses = ap (λ (b : Bool). if b then p.accesses else []) (eq-eqb p.program program (ap (λ (q : Path). q.program) same ∙ own)) ∙ ap (λ (q : Path). q.accesses) same in
    let here = in_node n 0 (accesses_by program p) k a (subst (λ (l : List Access). slice_get l k ≡ Some a) (sym mine) f) in
    member_left _ (placed_from n 0 (accesses_by program p)) (program_from program (n + 1) rest)
    (subst (λ (m : ℕ). IsMember (placed m k a) (placed_from n 0 (accesses_by program p))) z (subst (λ (m : ℕ). IsMember (placed n m a) (placed_from n 0 (accesses_by program p))) y here))
in_own program n (p ∷ rest) (suc i) path k a e own f =
    let z : n + 1 + i ≡ n + suc i = omega arith in
    member_right _ (placed_from n 0 (accesses_by program p)) (program_from program (n + 1) rest)
    (subst (λ (m : ℕ). IsMember (placed m k a) (program_from program (n + 1) rest)) z (in_own program (n + 1) rest i path k a e own f))

placed_of : (nodes : List Path) (program : ℕ) → ArePlacesOf nodes program (program_from program 0 nodes)
placed_of nodes program = record { part = own_part program 0 nodes; only = only; each = each }
  where
    only : (p : Placed) → Contains (program_from program 0 nodes) p → IsAt nodes p × IsOfProgram nodes program p.node
    only p c =
        let listed = part-contains (all_from 0 nodes) (program_from program 0 nodes) p (own_part program 0 nodes) c in
        let own = own_among program 0 nodes p c in
        let node = own.4 in
        let here : own.0 ≡ p.node = omega (arith, node) in
        (All-contains (λ (q : Placed). IsAt nodes q) (all_from 0 nodes) p (all_places_stand nodes) listed, (own.1, subst (λ (x : ℕ). slice_get nodes x ≡ Some own.1) here own.2, own.3))

    each : (p : Placed) → IsAt nodes p → IsOfProgram nodes program p.node → Contains (program_from program 0 nodes) p
    each p at of =
        let z : 0 + p.node ≡ p.node = omega arith in
        let own : at.0.program ≡ program = ap (λ (q : Path). q.program) (same_Some at.0 of.0 (sym at.1 ∙ of.1)) ∙ of.2 in
        contains_from_member (program_from program 0 nodes) p
        (subst (λ (m : ℕ). IsMember (placed m p.number p.access) (program_from program 0 nodes)) z (in_own program 0 nodes p.node at.0 p.number p.access at.1 own at.2))

-- places that are a program's are those of its accesses, and stand in the paths
own_places : (nodes : List Path) (program : ℕ) (places : List Placed) → places ≡ program_from program 0 nodes → ArePlacesOf nodes program places
own_places nodes program places is = subst (ArePlacesOf nodes program) (sym is) (placed_of nodes program)

places_stand : (nodes : List Path) (program : ℕ) (places : List Placed) → places ≡ program_from program 0 nodes → All (λ (p : Placed). IsAt nodes p) places
places_stand nodes program places is k d lt = ((own_places nodes program places is).only (get_or places k d) (Contains-get_or places k d lt)).0

pub places_of_pair : (nodes : List Path) (pair : Pair) (reads changes : List Placed) → reads ≡ program_from pair.from 0 nodes → changes ≡ program_from pair.to 0 nodes → ArePlacesOfPair nodes pair reads changes
places_of_pair nodes pair reads changes is_reads is_changes = record {
  of_first = own_places nodes pair.from reads is_reads;
  of_second = own_places nodes pair.to changes is_changes;
  reads_stand = places_stand nodes pair.from reads is_reads;
  changes_stand = places_stand nodes pair.to changes is_changes;
}

-- lists that equal those of a pair are those of it
pub same_places : (nodes : List Path) (pair : Pair) (xs ys reads changes : List Placed) → xs ≡ reads → ys ≡ changes → ArePlacesOfPair nodes pair reads changes → ArePlacesOfPair nodes pair xs ys
same_places nodes pair xs ys reads changes is_reads is_changes h =
    subst (λ (l : List Placed). ArePlacesOfPair nodes pair l ys) (sym is_reads) (subst (λ (l : List Placed). ArePlacesOfPair nodes pair reads l) (sym is_changes) h)

-- ---- what is told of a question

pub asks-from_misses : (first second : Placed) → MayMiss first second → asks first second ≡ true
asks-from_misses first second h = asks-from_Asks first second h.table (inl h.kinds)

-- an answer that tells whether the question is exposed tells whether the first access is exposed to the second
pub exposed-from_told : (nodes : List Path) (first second : Placed) (told : Bool) → IsAt nodes first → IsAt nodes second → MayMiss first second → TellsExposed nodes (numbers_of (question_between first second)) told → (told ≡ true) ↔ IsExposedTo nodes first second
exposed-from_told nodes first second told at_first at_second misses h =
    let asked : AsksOf nodes (numbers_of (question_between first second)) first.access second.access = record { at_mine = at_first; at_theirs = at_second; table = misses.table } in
    let exact = h first.access second.access asked in (
      λ t. let e = exact.0 t in record { misses = misses; exposed = (e.0, e.1 misses.kinds) },
      λ k. exact.1 (k.exposed.0, λ _. k.exposed.1),
    )

-- ---- the accesses of an exposed question of a pair, at their places

abbrev pub read_of : (nodes : List Path) (pair : Pair) → ExposedOf nodes pair → Placed
read_of nodes pair e = placed e.question.question.x e.question.question.a e.question.mine

abbrev pub change_of : (nodes : List Path) (pair : Pair) → ExposedOf nodes pair → Placed
change_of nodes pair e = placed e.question.question.y e.question.question.b e.question.theirs

pub misses_of : (nodes : List Path) (pair : Pair) (e : ExposedOf nodes pair) → IsExposedTo nodes (read_of nodes pair e) (change_of nodes pair e)
misses_of nodes pair e = record { misses = record { table = e.question.asked.table; kinds = e.question.kinds }; exposed = e.question.holds }

-- ---- questions among accesses

module _ (nodes : List Path) where
  pub among-no_firsts : (ys : List Placed) → AreExposedAmong nodes [] ys []
  among-no_firsts ys = record { part = refl; only = λ q c. absurd (contains_nothing q c); each = λ x y i j e. absurd (contains_nothing x i) }

  pub among-no_seconds : (xs : List Placed) → AreExposedAmong nodes xs [] []
  among-no_seconds xs = record { part = part-none (asked_among xs []); only = λ q c. absurd (contains_nothing q c); each = λ x y i j e. absurd (contains_nothing y j) }

  pub among-exposed : (x y : Placed) → IsExposedTo nodes x y → AreExposedAmong nodes (x ∷ []) (y ∷ []) (question_between x y ∷ [])
  among-exposed x y e = record {
    part = subst (λ (l : List Question). IsPart (l ++ []) (question_between x y ∷ [])) (sym (if_yes (asks x y) (question_between x y) [] (asks-from_misses x y e.misses))) (part-whole (question_between x y ∷ []));
    only = λ q c. record { first = x; second = y; in_firsts = contains_itself x; in_seconds = contains_itself y; exposed = e; is = sym (contains_only (question_between x y) q c) };
    each = λ v w i j h. subst (λ (p : Placed). Contains (question_between x y ∷ []) (question_between p w)) (contains_only x v i) (subst (λ (p : Placed). Contains (question_between x y ∷ []) (question_between x p)) (contains_only y w j) (contains_itself (question_between x y)));
  }

  pub among-unexposed : (x y : Placed) → (IsExposedTo nodes x y → ⊥) → AreExposedAmong nodes (x ∷ []) (y ∷ []) []
  among-unexposed x y n = record {
    part = part-none (asked_among (x ∷ []) (y ∷ []));
    only = λ q c. absurd (contains_nothing q c);
    each = λ v w i j h. absurd (n (subst (λ (p : Placed). IsExposedTo nodes p y) (sym (contains_only x v i)) (subst (λ (p : Placed). IsExposedTo nodes v p) (sym (contains_only y w j)) h)));
  }

  pub first_moved : (xs ys zs : List Placed) (q : Question) → ((x : Placed) → Contains xs x → Contains ys x) → IsExposedOf nodes xs zs q → IsExposedOf nodes ys zs q
  first_moved xs ys zs q move e = record { first = e.first; second = e.second; in_firsts = move e.first e.in_firsts; in_seconds = e.in_seconds; exposed = e.exposed; is = e.is }

  second_moved : (xs ys zs : List Placed) (q : Question) → ((y : Placed) → Contains ys y → Contains zs y) → IsExposedOf nodes xs ys q → IsExposedOf nodes xs zs q
  second_moved xs ys zs q move e = record { first = e.first; second = e.second; in_firsts = e.in_firsts; in_seconds = move e.second e.in_seconds; exposed = e.exposed; is = e.is }

  pub among-firsts : (xs ys zs : List Placed) (qs rs : List Question) → AreExposedAmong nodes xs zs qs → AreExposedAmong nodes ys zs rs → AreExposedAmong nodes (xs ++ ys) zs (qs ++ rs)
  among-firsts xs ys zs qs rs h k = record { part = part; only = only; each = each }
    where
      part : IsPart (asked_among (xs ++ ys) zs) (qs ++ rs)
      part =
          subst (λ (l : List Question). IsPart l (qs ++ rs)) (sym (asked_among-append xs ys zs))
          (part-append (asked_among xs zs) (asked_among ys zs) qs rs h.part k.part)

      only : (q : Question) → Contains (qs ++ rs) q → IsExposedOf nodes (xs ++ ys) zs q
      only q c = go (Contains-append_cases qs rs q c)
        where
          go : Contains qs q ⊎ Contains rs q → IsExposedOf nodes (xs ++ ys) zs q
          go (inl l) = first_moved xs (xs ++ ys) zs q (λ x i. Contains-append_left xs ys x i) (h.only q l)
          go (inr r) = first_moved ys (xs ++ ys) zs q (λ x i. Contains-append_right xs ys x i) (k.only q r)

      each : (first second : Placed) → Contains (xs ++ ys) first → Contains zs second → IsExposedTo nodes first second → Contains (qs ++ rs) (question_between first second)
      each first second i j e = go (Contains-append_cases xs ys first i)
        where
          go : Contains xs first ⊎ Contains ys first → Contains (qs ++ rs) (question_between first second)
          go (inl l) = Contains-append_left qs rs _ (h.each first second l j e)
          go (inr r) = Contains-append_right qs rs _ (k.each first second r j e)

  -- what one access asks
  asked-alone : (x : Placed) (ys : List Placed) → asked_among (x ∷ []) ys ≡ asked_by x ys
  asked-alone x ys = append-nil (asked_by x ys)

  pub among-seconds : (x : Placed) (ys zs : List Placed) (qs rs : List Question) → AreExposedAmong nodes (x ∷ []) ys qs → AreExposedAmong nodes (x ∷ []) zs rs → AreExposedAmong nodes (x ∷ []) (ys ++ zs) (qs ++ rs)
  among-seconds x ys zs qs rs h k = record { part = part; only = only; each = each }
    where
      xs : List Placed
      xs = x ∷ []

      part : IsPart (asked_among (x ∷ []) (ys ++ zs)) (qs ++ rs)
      part =
          subst (λ (l : List Question). IsPart l (qs ++ rs)) (sym (asked-alone x (ys ++ zs) ∙ asked_by-append x ys zs))
          (part-append (asked_by x ys) (asked_by x zs) qs rs
          (subst (λ (l : List Question). IsPart l qs) (asked-alone x ys) h.part)
          (subst (λ (l : List Question). IsPart l rs) (asked-alone x zs) k.part))

      only : (q : Question) → Contains (qs ++ rs) q → IsExposedOf nodes xs (ys ++ zs) q
      only q c = go (Contains-append_cases qs rs q c)
        where
          go : Contains qs q ⊎ Contains rs q → IsExposedOf nodes xs (ys ++ zs) q
          go (inl l) = second_moved xs ys (ys ++ zs) q (λ y i. Contains-append_left ys zs y i) (h.only q l)
          go (inr r) = second_moved xs zs (ys ++ zs) q (λ y i. Contains-append_right ys zs y i) (k.only q r)

      each : (first second : Placed) → Contains xs first → Contains (ys ++ zs) second → IsExposedTo nodes first second → Contains (qs ++ rs) (question_between first second)
      each first second i j e = go (Contains-append_cases ys zs second j)
        where
          go : Contains ys second ⊎ Contains zs second → Contains (qs ++ rs) (question_between first second)
          go (inl l) = Contains-append_left qs rs _ (h.each first second i l e)
          go (inr r) = Contains-append_right qs rs _ (k.each first second i r e)

  -- one more access at the end of the seconds
  pub more-exposed : (x : Placed) (n : ℕ) (ys : List Placed) (d : Placed) (qs more : List Question) → n < length ys → IsExposedTo nodes x (get_or ys n d) → more ≡ qs ++ question_between x (get_or ys n d) ∷ [] → AreExposedAmong nodes (x ∷ []) (take n ys) qs → AreExposedAmong nodes (x ∷ []) (take (n + 1) ys) more
  more-exposed x n ys d qs more lt e added h =
      subst (λ (l : List Placed). AreExposedAmong nodes (x ∷ []) l more) (sym (take_more ys n d lt))
      (subst (λ (l : List Question). AreExposedAmong nodes (x ∷ []) (take n ys ++ get_or ys n d ∷ []) l) (sym added)
      (among-seconds x (take n ys) (get_or ys n d ∷ []) qs (question_between x (get_or ys n d) ∷ []) h (among-exposed x (get_or ys n d) e)))

  pub more-unexposed : (x : Placed) (n : ℕ) (ys : List Placed) (d : Placed) (qs more : List Question) → n < length ys → (IsExposedTo nodes x (get_or ys n d) → ⊥) → more ≡ qs → AreExposedAmong nodes (x ∷ []) (take n ys) qs → AreExposedAmong nodes (x ∷ []) (take (n + 1) ys) more
  more-unexposed x n ys d qs more lt e is h =
      subst (λ (l : List Placed). AreExposedAmong nodes (x ∷ []) l more) (sym (take_more ys n d lt))
      (subst (λ (l : List Question). AreExposedAmong nodes (x ∷ []) (take n ys ++ get_or ys n d ∷ []) l) (append-nil qs ∙ sym is)
      (among-seconds x (take n ys) (get_or ys n d ∷ []) qs [] h (among-unexposed x (get_or ys n d) e)))

  -- one more access at the end of the firsts
  pub more-firsts : (n : ℕ) (xs ys : List Placed) (d : Placed) (qs rs more : List Question) → n < length xs → AreExposedAmong nodes (get_or xs n d ∷ []) ys rs → more ≡ qs ++ rs → AreExposedAmong nodes (take n xs) ys qs → AreExposedAmong nodes (take (n + 1) xs) ys more
  more-firsts n xs ys d qs rs more lt own added h =
      subst (λ (l : List Placed). AreExposedAmong nodes l ys more) (sym (take_more xs n d lt))
      (subst (λ (l : List Question). AreExposedAmong nodes (take n xs ++ get_or xs n d ∷ []) ys l) (sym added)
      (among-firsts (take n xs) (get_or xs n d ∷ []) ys qs rs h own))

  -- ---- the questions of a pair

  module _ (pair : Pair) (xs ys : List Placed) (firsts : ArePlacesOf nodes pair.from xs) (seconds : ArePlacesOf nodes pair.to ys) where
    pub in_firsts : (e : ExposedOf nodes pair) → Contains xs (read_of nodes pair e)
    in_firsts e = firsts.each (read_of nodes pair e) e.question.asked.at_mine (subst (λ (n : ℕ). IsOfProgram nodes pair.from n) (sym e.question.from) e.of_pair.0)

    pub in_seconds : (e : ExposedOf nodes pair) → Contains ys (change_of nodes pair e)
    in_seconds e = seconds.each (change_of nodes pair e) e.question.asked.at_theirs (subst (λ (n : ℕ). IsOfProgram nodes pair.to n) (sym e.question.to) e.of_pair.1)

    -- what is exposed between their accesses is of the pair
    pub of_pair-exposed : (q : Question) → IsExposedOf nodes xs ys q → (e : ExposedOf nodes pair) × (e.question.question ≡ numbers_of q)
    of_pair-exposed q b =
        let f = firsts.only b.first b.in_firsts in
        let s = seconds.only b.second b.in_seconds in (
          record {
            x = b.first.node;
            y = b.second.node;
            of_pair = (f.1, s.1);
            question = record {
              question = numbers_of (question_between b.first b.second);
              from = refl;
              to = refl;
              mine = b.first.access;
              theirs = b.second.access;
              asked = record { at_mine = f.0; at_theirs = s.0; table = b.exposed.misses.table };
              kinds = b.exposed.misses.kinds;
              holds = b.exposed.exposed;
            };
          },
          ap numbers_of (sym b.is),
        )

    pub AreExposed-from_places : (qs : List Question) → AreExposedAmong nodes xs ys qs → AreExposed nodes pair qs
    AreExposed-from_places qs h = record {
      part = part-trans (questions_of nodes) (asked_among xs ys) qs (part-among (all_from 0 nodes) xs ys firsts.part seconds.part) h.part;
      only = λ q c. of_pair-exposed q (h.only q c);
      each = λ e. (question_between (read_of nodes pair e) (change_of nodes pair e), h.each (read_of nodes pair e) (change_of nodes pair e) (in_firsts e) (in_seconds e) (misses_of nodes pair e), refl);
    }

-- What answers give that answer all questions of a list of paths: just the edges of the paths.
use Rattle.std.proofs.Common.{◌≡◌, ℕ, ◌⊎◌, inl, inr, Bool, true, false, ◌||◌, ◌&&◌, List, length, Contains, refl, subst, ap, ◌∙◌}
use Rattle.std.specs.Prelude.{◌==◌}
use Rattle.std.specs.List.{list_any}
use Rattle.std.proofs.lemmas.Bool.{and_from, and_left, and_parts, eqb-true, or_cases, or_from, or_left, or_right}
use Rattle.std.proofs.lemmas.List.Elements.{All-contains}
use Rattle.order_facts.specs.Square.{Enters}
use Rattle.prog_tree.proofs.Elements.{any_in, in_any}
use Rattle.prog_check.specs.declared.path.Kind.{Kind}
use Rattle.prog_check.specs.declared.path.Path.{Path}
use Rattle.prog_paths.specs.StaticGraph.{StaticEdge, IsVulnerable, IsExposed, AsksReadWrite}
use Rattle.prog_paths.specs.declared.accesses.mark.EdgeTables.{EdgeTables}
use Rattle.prog_paths.specs.declared.accesses.mark.Gives.{Gives}
use Rattle.prog_paths.specs.declared.accesses.mark.Mark.{Mark}
use Rattle.prog_paths.specs.declared.accesses.questions.Question.{Question}
use Rattle.prog_paths.specs.Marks.{gives_by, mark_by, gives_edge, gives_vulnerable}
use Rattle.prog_paths.specs.Questions.{numbers_of}
use Rattle.prog_paths.proofs.Edges.{HasQuestion-inside, EdgeOf-inside}
use Rattle.prog_paths.proofs.Grids.{test-from_joined, joined-from_test}
use Rattle.prog_paths.proofs.Marked.{mark-from_edge, mark-from_vulnerable}
use Rattle.conflict_pairs.specs.declared.verdicts.Verdict.{Verdict}
use Rattle.conflict_pairs.specs.declared.verdicts.Verdict.TheVariants.{Apart, Covered, Exposed}
use Rattle.conflict_pairs.specs.Classed.{ClassAnswer, Classed, HaveVerdict, IsRightOfEach, IsAnswerTo, AnswersAll}
use Rattle.conflict_pairs.specs.Verdicts.{can_meet, is_exposed}
use Rattle.dep_graph.specs.Edges.{answer_edge, answer_vulnerable, are_of, given_by, is_one_of, EntersAnswer, IsTableOf}
use Rattle.dep_graph.proofs.Deciding.{Meets, right-meets, right-exposed, edge-forward, edge-backward, vulnerable-forward}
use Rattle.dep_graph.proofs.Entering.{Enters-nothing, GiveAnswers}

-- ---- nodes of an answer

among-from_one : (nodes : List ℕ) (n : ℕ) → is_one_of nodes n ≡ true → Contains nodes n
among-from_one nodes n h = let f = any_in (λ m. m == n) nodes h in subst (λ (m : ℕ). Contains nodes m) (eqb-true f.0 n f.2) f.1

one-from_among : (nodes : List ℕ) (m n : ℕ) → Contains nodes m → (m == n) ≡ true → is_one_of nodes n ≡ true
one-from_among nodes m n among same = in_any (λ k. k == n) nodes m among same

both-among : (xs ys : List ℕ) (x y : ℕ) → are_of xs ys x y ≡ true → Contains xs x × Contains ys y
both-among xs ys x y h = let p = and_parts (is_one_of xs x) _ h in (among-from_one xs x p.0, among-from_one ys y p.1)

-- ---- accesses that never meet

not_exposed : (v : Verdict) → can_meet v ≡ false → is_exposed v ≡ false
not_exposed (Apart chain) h = refl
not_exposed (Covered m t chains) h = refl
not_exposed (Exposed sample) h = h

pub EntersAnswer-apart : (e : ClassAnswer) (tables : EdgeTables) → can_meet e.verdict ≡ false → EntersAnswer tables tables e
EntersAnswer-apart e tables apart = record {
  edges = Enters-nothing tables.edges _ (λ x y. or_from _ _ (and_left _ _ (and_left (can_meet e.verdict) _ apart)) (and_left _ _ (and_left (can_meet e.verdict) _ apart)));
  vulnerable = Enters-nothing tables.vulnerable _ (λ x y. and_left _ _ (and_left (is_exposed e.verdict) _ (not_exposed e.verdict apart)));
}

-- ---- others

-- what is given from some nodes to others is entered
record EntersGiven (old new : EdgeTables) (given : Gives) (firsts seconds : List ℕ) : Type 0 where
  edges : Enters old.edges new.edges (λ x y. (given.forward && are_of firsts seconds x y) || (given.backward && are_of seconds firsts x y))
  vulnerable : Enters old.vulnerable new.vulnerable (λ x y. given.vulnerable && are_of firsts seconds x y)

pub EntersAnswer-given : (e : ClassAnswer) (old new : EdgeTables) (mine theirs : Kind) (v : Verdict) (meets exposed : Bool) (given : Gives) (firsts seconds : List ℕ) → meets ≡ can_meet v → exposed ≡ is_exposed v → given ≡ gives_by mine theirs meets exposed
    → (mine ≡ e.mine) × (theirs ≡ e.theirs) → v ≡ e.verdict → firsts ≡ e.firsts → seconds ≡ e.seconds
    → Enters old.edges new.edges (λ x y. (given.forward && are_of firsts seconds x y) || (given.backward && are_of seconds firsts x y))
    → Enters old.vulnerable new.vulnerable (λ x y. given.vulnerable && are_of firsts seconds x y) → EntersAnswer old new e
EntersAnswer-given e old new mine theirs v meets exposed given firsts seconds is_meets exposes is kinds verdict is_firsts is_seconds edges vulnerable =
    let told = subst (λ (g : Gives). EntersGiven old new g e.firsts e.seconds) (is ∙ by_verdict ∙ same)
    (subst (λ (ys : List ℕ). EntersGiven old new given e.firsts ys) is_seconds
    (subst (λ (xs : List ℕ). EntersGiven old new given xs seconds) is_firsts (record { edges = edges; vulnerable = vulnerable }))) in
    record { edges = told.edges; vulnerable = told.vulnerable }
  where
    by_verdict : gives_by mine theirs meets exposed ≡ given_by mine theirs v
    by_verdict = rw (is_meets, exposes) refl

    same : given_by mine theirs v ≡ given_by e.mine e.theirs e.verdict
    same = ap (λ (k : Kind). given_by k theirs v) kinds.0 ∙ ap (λ (k : Kind). given_by e.mine k v) kinds.1 ∙ ap (λ (w : Verdict). given_by e.mine e.theirs w) verdict

-- ---- what the answers give, the paths have

module _ (paths : List Path) (e : ClassAnswer) (right : IsRightOfEach paths e) where
  static-from_answer : (x y : ℕ) → answer_edge x y e ≡ true → StaticEdge paths x y
  static-from_answer x y h = by (or_cases ((given_by e.mine e.theirs e.verdict).forward && are_of e.firsts e.seconds x y) _ h)
    where
      by : (((given_by e.mine e.theirs e.verdict).forward && are_of e.firsts e.seconds x y) ≡ true) ⊎ (((given_by e.mine e.theirs e.verdict).backward && are_of e.seconds e.firsts x y) ≡ true) → StaticEdge paths x y
      by (inl k) =
          let p = and_parts (given_by e.mine e.theirs e.verdict).forward _ k in
          let ends = both-among e.firsts e.seconds x y p.1 in
          let m = and_parts (can_meet e.verdict) _ p.0 in
          edge-forward paths x y e.mine e.theirs e.verdict (right x y ends.0 ends.1) m.0 (or_cases _ _ m.1)
      by (inr k) =
          let p = and_parts (given_by e.mine e.theirs e.verdict).backward _ k in
          let ends = both-among e.seconds e.firsts x y p.1 in
          let m = and_parts (can_meet e.verdict) _ p.0 in
          edge-backward paths y x e.mine e.theirs e.verdict (right y x ends.1 ends.0) m.0 (or_cases _ _ m.1)

  vulnerable-from_answer : (x y : ℕ) → answer_vulnerable x y e ≡ true → IsVulnerable paths x y
  vulnerable-from_answer x y h =
      let p = and_parts (given_by e.mine e.theirs e.verdict).vulnerable _ h in
      let ends = both-among e.firsts e.seconds x y p.1 in
      let m = and_parts (is_exposed e.verdict) _ p.0 in
      vulnerable-forward paths x y e.mine e.theirs e.verdict (right x y ends.0 ends.1) m.0 m.1

-- ---- what the paths have, the answers give

module _ (paths : List Path) (q : Question) (e : ClassAnswer) (to_it : IsAnswerTo paths q e) where
  as_given : mark_by q (can_meet e.verdict) (is_exposed e.verdict) ≡ record { x = q.x; y = q.y; gives = given_by e.mine e.theirs e.verdict }
  as_given = rw (to_it.mine, to_it.theirs) refl

  edge-answered : (x y : ℕ) → gives_edge x y (mark_by q (can_meet e.verdict) (is_exposed e.verdict)) ≡ true → answer_edge x y e ≡ true
  edge-answered x y h = by (or_cases ((given_by e.mine e.theirs e.verdict).forward && (q.x == x && q.y == y)) _ (subst (λ (m : Mark). gives_edge x y m ≡ true) as_given h))
    where
      by : (((given_by e.mine e.theirs e.verdict).forward && (q.x == x && q.y == y)) ≡ true) ⊎ (((given_by e.mine e.theirs e.verdict).backward && (q.y == x && q.x == y)) ≡ true) → answer_edge x y e ≡ true
      by (inl k) =
          let p = and_parts (given_by e.mine e.theirs e.verdict).forward _ k in
          let ends = and_parts (q.x == x) _ p.1 in
          or_left _ _ (and_from _ _ p.0 (and_from _ _ (one-from_among e.firsts q.x x to_it.first ends.0) (one-from_among e.seconds q.y y to_it.second ends.1)))
      by (inr k) =
          let p = and_parts (given_by e.mine e.theirs e.verdict).backward _ k in
          let ends = and_parts (q.y == x) _ p.1 in
          or_right _ _ (and_from _ _ p.0 (and_from _ _ (one-from_among e.seconds q.y x to_it.second ends.0) (one-from_among e.firsts q.x y to_it.first ends.1)))

  vulnerable-answered : (x y : ℕ) → gives_vulnerable x y (mark_by q (can_meet e.verdict) (is_exposed e.verdict)) ≡ true → answer_vulnerable x y e ≡ true
  vulnerable-answered x y h =
      let p = and_parts (given_by e.mine e.theirs e.verdict).vulnerable _ (subst (λ (m : Mark). gives_vulnerable x y m ≡ true) as_given h) in
      let ends = and_parts (q.x == x) _ p.1 in
      and_from _ _ p.0 (and_from _ _ (one-from_among e.firsts q.x x to_it.first ends.0) (one-from_among e.seconds q.y y to_it.second ends.1))

module _ (t : Classed) (all : AnswersAll t) where
  some-from_static : (x y : ℕ) → StaticEdge t.paths x y → list_any (answer_edge x y) t.answers ≡ true
  some-from_static x y edge =
      let g = mark-from_edge Meets t.paths x y edge in
      let a = all.all g.question g.asked in
      let v = a.answer.verdict in
      let right = a.to_it.right g.asked.mine g.asked.theirs g.asked.asked in
      let meets = right-meets t.paths (numbers_of g.question) g.asked.mine g.asked.theirs v right g.holds in
      in_any (answer_edge x y) t.answers a.answer a.told (edge-answered t.paths g.question a.answer a.to_it x y (g.gives (can_meet v) (is_exposed v) meets))

  some-from_vulnerable : (x y : ℕ) → IsVulnerable t.paths x y → list_any (answer_vulnerable x y) t.answers ≡ true
  some-from_vulnerable x y edge =
      let g = mark-from_vulnerable (IsExposed t.paths) t.paths x y edge in
      let a = all.all g.question g.asked in
      let v = a.answer.verdict in
      let right = a.to_it.right g.asked.mine g.asked.theirs g.asked.asked in
      let exposed = right-exposed t.paths (numbers_of g.question) g.asked.mine g.asked.theirs v right g.holds in
      in_any (answer_vulnerable x y) t.answers a.answer a.told (vulnerable-answered t.paths g.question a.answer a.to_it x y (g.gives (can_meet v) (is_exposed v) exposed))

  right-each : (e : ClassAnswer) → Contains t.answers e → IsRightOfEach t.paths e
  right-each e told = All-contains (λ e. IsRightOfEach t.paths e) t.answers e all.right told

  -- tables that give what the answers give have the edges of the paths
  module _ (tables : EdgeTables) (give : GiveAnswers tables (length t.paths) t.answers) where
    pub edges-told : IsTableOf tables.edges (length t.paths) (StaticEdge t.paths)
    edges-told = record {
      size_is = give.edges.size_is;
      joins = λ x y. (
        λ j. let s = any_in (answer_edge x y) t.answers (test-from_joined tables.edges _ _ give.edges x y j) in static-from_answer t.paths s.0 (right-each s.0 s.1) x y s.2,
        λ edge. let inside = EdgeOf-inside Meets t.paths x y edge in joined-from_test tables.edges _ _ give.edges x y inside.0 inside.1 (some-from_static x y edge),
      );
    }

    pub vulnerable-told : IsTableOf tables.vulnerable (length t.paths) (IsVulnerable t.paths)
    vulnerable-told = record {
      size_is = give.vulnerable.size_is;
      joins = λ x y. (
        λ j. let s = any_in (answer_vulnerable x y) t.answers (test-from_joined tables.vulnerable _ _ give.vulnerable x y j) in vulnerable-from_answer t.paths s.0 (right-each s.0 s.1) x y s.2,
        λ edge. let inside = HasQuestion-inside (IsExposed t.paths) t.paths (λ q. AsksReadWrite) x y edge in joined-from_test tables.vulnerable _ _ give.vulnerable x y inside.0 inside.1 (some-from_vulnerable x y edge),
      );
    }

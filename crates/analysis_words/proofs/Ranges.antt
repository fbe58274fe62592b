-- Looks at ranges, by the statements of their programs.
use Rattle.std.proofs.Common.{◌≡◌, ◌↔◌, ◌∙◌, ℕ, Bool, true, subst, sym}
use Rattle.std.specs.Prelude.{Some}
use Rattle.std.proofs.lemmas.Option.{same_Some}
use Rattle.prog_tree.specs.Tree.{draft_tree}
use Rattle.prog_tree.specs.declared.program.Draft.{Draft}
use Rattle.prog_check.specs.declared.path.Access.{Access}
use Rattle.prog_paths.specs.declared.accesses.questions.Question.{Question}
use Rattle.repair_laws.specs.Refusals.{IsRangeAt}
use Rattle.analysis_words.specs.Helping.{LooksAtRange}
use Rattle.analysis_words.specs.Nodes.{access_of, program_of, Sight}

-- a look is at a range just where the statement of its program and number is one
pub looks-from_at : (sight : Sight) (q : Question) (draft : Draft) (program : ℕ) (look : Access) (answer : Bool) → draft ≡ sight.set
    → program_of sight q.x ≡ Some program → access_of sight q.x q.a ≡ Some look
    → (answer ≡ true) ↔ IsRangeAt (draft_tree draft) program look.place → (answer ≡ true) ↔ LooksAtRange sight q
looks-from_at sight q draft program look answer of_set of_node of_look own = (to, from)
  where
    to : answer ≡ true → LooksAtRange sight q
    to h = (program, of_node, look, of_look, subst (λ (d : Draft). IsRangeAt (draft_tree d) program look.place) of_set (own.0 h))

    from : LooksAtRange sight q → answer ≡ true
    from h =
        let its_program = same_Some h.0 program (sym h.1 ∙ of_node) in
        let its_look = same_Some h.2 look (sym h.3 ∙ of_look) in
        let by_look = subst (λ (a : Access). IsRangeAt (draft_tree sight.set) h.0 a.place) its_look h.4 in
        let by_both = subst (λ (n : ℕ). IsRangeAt (draft_tree sight.set) n look.place) its_program by_look in
        own.1 (subst (λ (d : Draft). IsRangeAt (draft_tree d) program look.place) (sym of_set) by_both)

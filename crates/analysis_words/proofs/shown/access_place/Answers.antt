use Rattle.std.proofs.Common.{◌≡◌, ◌<◌, List, ℕ, Option, Some, refl, length, get_or, slice_get}
use Rattle.std.proofs.lemmas.Option.{IfSome_then, slice_get_past, slice_get_read}
use Rattle.analysis_words.specs.Nodes.HasNoAccess.{NoNode, NoneOfNode, NoStatement}
use Rattle.analysis_words.proofs.shown.access_place.Goals as goal
use Rattle.prog_tree.proofs.Outcomes.{none_then}

-- what is read of a list is its element
read_at : {X : Type 0} (xs ys : List X) (i : ℕ) (x : X) → xs ≡ ys → i < length xs → x ≡ get_or xs i x → slice_get ys i ≡ Some x
read_at xs ys i x same within is = rw (← same) (slice_get_read xs (length xs) i x refl within is)

pub returns-in_err-path-clause-none : goal.returns-in_err-path-clause-none
returns-in_err-path-clause-none c = rw c.from_residual.ensures (NoNode (slice_get_past _ _ (c.in_err-path.ensures.lookup.3)))

pub returns-in_err-access-clause-none : goal.returns-in_err-access-clause-none
returns-in_err-access-clause-none c =
    let node = c.in_ok-path.ensures.lookup in
    rw c.from_residual-in_err-access.ensures
    (NoneOfNode c.in_ok-path.path.now (read_at _ _ _ _ refl node.3.0 node.1)
    (rw (← c.as_slice.ensures) (slice_get_past _ _ (c.in_err-access.ensures.lookup.3))))

pub returns-clause-found : goal.returns-clause-found
returns-clause-found c =
    let node = c.in_ok-path.ensures.lookup in
    let access = c.in_ok-access.ensures.lookup in
    IfSome_then c.statement_place.result c.statement_place.ensures.found (λ at stands. record {
      path = c.in_ok-path.path.now;
      of_node = read_at _ _ _ _ refl node.3.0 node.1;
      accessed = c.in_ok-access.access.now;
      of_path = read_at _ _ _ _ c.as_slice.ensures access.3.0 access.1;
      stands = stands;
    })

pub returns-clause-none : goal.returns-clause-none
returns-clause-none c =
    let node = c.in_ok-path.ensures.lookup in
    let access = c.in_ok-access.ensures.lookup in
    none_then c.statement_place.result _ _ (λ none. NoStatement c.in_ok-path.path.now (read_at _ _ _ _ refl node.3.0 node.1)
    c.in_ok-access.access.now (read_at _ _ _ _ c.as_slice.ensures access.3.0 access.1) none) c.statement_place.ensures.none

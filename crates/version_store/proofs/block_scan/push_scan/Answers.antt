use Rattle.std.proofs.Common.{◌≡◌, ◌∙◌, ◌++◌, [], refl, ap, sym, append-nil}
use Rattle.prog_tree.specs.Pieces.{rows_of}
use Rattle.version_store.proofs.ShareLaws.{none_seen, seen_same, rows_of-push}
use Rattle.version_store.proofs.block_scan.push_scan.Goals as goal

pub returns-in_ok-push : goal.returns-in_ok-push
returns-in_ok-push c = λ rise m seen.
    let old = c.args.pieces.now.items in
    let is : m ≡ c.in_ok-rows.rows = seen_same c.args.region.now c.args.start c.args.chains.now m c.in_ok-rows.rows seen (c.in_ok-rows.ensures rise) in
    ap rows_of c.in_ok-push.ensures.items
    ∙ rows_of-push old c.in_ok-piece.piece
    ∙ ap (λ more. rows_of old ++ more) (c.in_ok-piece.ensures ∙ c.into_vec.ensures ∙ sym is)

pub returns-else-not-is_empty : goal.returns-else-not-is_empty
returns-else-not-is_empty c = λ rise m seen.
    let old = c.args.pieces.now.items in
    let is : m ≡ c.in_ok-rows.rows = seen_same c.args.region.now c.args.start c.args.chains.now m c.in_ok-rows.rows seen (c.in_ok-rows.ensures rise) in
    sym (append-nil (rows_of old)) ∙ ap (λ more. rows_of old ++ more) (sym (c.is_empty.ensures.0 c.if-not-is_empty.false) ∙ sym is)

pub returns-in_default : goal.returns-in_default
returns-in_default c = λ rise m seen.
    let old = c.args.pieces.now.items in
    let is : m ≡ [] = seen_same c.args.region.now c.args.start c.args.chains.now m [] seen (none_seen c.args.region.now c.args.start c.args.chains.now c.in_default.ensures [] refl) in
    sym (append-nil (rows_of old)) ∙ ap (λ more. rows_of old ++ more) (sym is)

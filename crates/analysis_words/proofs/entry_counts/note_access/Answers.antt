use Rattle.std.proofs.Common.{◌≡◌, ◌<◌, ◌∙◌, length, get_or, refl, ap, set, arith}
use Rattle.std.proofs.lemmas.Option.{slice_get_read}
use Rattle.analysis_words.proofs.Counts.{one-more, same-read}
use Rattle.analysis_words.proofs.entry_counts.note_access.Goals as goal

pub returns : goal.returns
returns c =
    let old = c.args.covers.now.items in
    let node = c.args.node in
    let access = c.args.access in
    let v = c.index_mut.result.now in
    let n = c.index-3.result.now in
    let inside : node < length old = omega (arith, c.if-node-len.false, c.len.ensures, c.args.covers.now.ok) in
    let first = same-read old node c.index.result.now v inside c.index.ensures c.index_mut.ensures.value in
    let second = same-read old node c.index-2.result.now v inside c.index-2.ensures c.index_mut.ensures.value in
    let long = ap (λ u. length u.items) first in
    let within : access < length v.items = omega (arith, c.if-access-len.false, c.len-else-node-len.ensures, long, c.index.result.now.ok) in
    let read : n ≡ get_or v.items access n = c.index-3.ensures ∙ ap (λ u. get_or u.items access n) second in
    one-more old node v _ (slice_get_read old (length old) node v refl inside c.index_mut.ensures.value) access n
    (slice_get_read v.items (length v.items) access n refl within read) (ap (set v.items access) c.in-Some.ensures.1)

use Rattle.std.proofs.Common.{◌<◌, ◌≤◌, length, take, string_capacity, sym, ap, subst, ◌∙◌, arith}
use Rattle.std.proofs.lemmas.List.{length-append, length-set, take_more_set}
use Rattle.std.proofs.lemmas.List.Elements.{All-push, All-set}
use Rattle.std.specs.Prelude.{All}
use Rattle.robust_cert.specs.Slates.{CanWrite, IsWide, slates_entries}
use Rattle.robust_cert.proofs.Slates.{one_more, fewer_behind}
use Rattle.robust_cert.proofs.text.slates.Slates.deal_out.Goals as goal

pub loop-n-preserved : goal.loop-n-preserved
loop-n-preserved c =
    let items = c.loop-n.self.all.items in
    let n = c.loop-n.n in
    let told = c.args.told.now in
    let left = c.loop-n.left.now in
    let behind = c.take-left.result.now in
    let slate = c.take-left.new.self in
    let there : n < length items = omega (arith, c.loop-n-test.true, c.loop-n.auto.n-end, c.loop-n.invariant.count) in
    let most : length left ≤ length told = omega (arith, ap length c.loop-n.invariant.all, length-append (slates_entries (take n items)) left) in
    let no_more : length behind ≤ length left = omega (arith, ap length c.take-left.ensures.all, length-append slate.entries.now behind) in
    record {
      all = one_more items n slate told left behind there c.loop-n.invariant.all c.take-left.ensures.all;
      room = subst (All (CanWrite c.args.reasons.now c.args.tails.now)) (sym (take_more_set items n slate there)) (All-push (CanWrite c.args.reasons.now c.args.tails.now) (take n items) slate c.loop-n.invariant.room c.take-left.ensures.room);
      count = length-set items n slate ∙ c.loop-n.invariant.count;
      wide = λ bytes all.
          let wide = c.loop-n.invariant.wide bytes all in
          let own : bytes ≤ string_capacity c.index_mut.result.now.text = subst (IsWide bytes) (sym c.index_mut.ensures.value) (wide n c.index_mut.result.now there) in
          All-set (IsWide bytes) items n slate (omega (arith, own, c.take-left.ensures.capacity)) wide;
      within = c.take-left.ensures.within;
      fewer = λ _ some. fewer_behind (length told) (length left) (length behind) some most no_more c.take-left.ensures.fewer;
    }

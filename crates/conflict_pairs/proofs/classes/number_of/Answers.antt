use Rattle.std.proofs.Common.{◌+◌, arith}
use Rattle.std.proofs.lemmas.List.{get_or_read}
use Rattle.conflict_pairs.proofs.Paired.{number-fits, number-is, number-there}
use Rattle.conflict_pairs.proofs.classes.number_of.Goals as goal

pub index-requires : goal.index-requires
index-requires c =
    let classes = c.args.classes.now in
    omega (arith, c.requires.stands.has_start, classes.starts.ok.0)

pub overflow_add-result : goal.overflow_add-result
overflow_add-result c =
    let classes = c.args.classes.now in
    let start_is = get_or_read classes.starts.items c.args.place.now.node c.index.result.now c.requires.stands.has_start c.index.ensures 0 in
    let fits = number-fits classes.starts.items classes.places.items c.requires.few c.args.place.now c.requires.stands in
    omega (arith, fits, start_is)

pub returns-clause-within : goal.returns-clause-within
returns-clause-within c =
    let classes = c.args.classes.now in
    let place = c.args.place.now in
    let start_is = get_or_read classes.starts.items place.node c.index.result.now c.requires.stands.has_start c.index.ensures 0 in
    number-there classes.starts.items classes.places.items c.requires.few place c.requires.stands _ (λ i. start_is i + place.number)

pub returns-clause-is : goal.returns-clause-is
returns-clause-is c =
    let classes = c.args.classes.now in
    let place = c.args.place.now in
    let start_is = get_or_read classes.starts.items place.node c.index.result.now c.requires.stands.has_start c.index.ensures 0 in
    number-is classes.starts.items classes.places.items c.requires.few place c.requires.stands _ (λ i. start_is i + place.number)

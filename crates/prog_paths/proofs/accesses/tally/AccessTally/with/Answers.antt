use Rattle.std.proofs.Common.{◌∙◌, arith}
use Rattle.prog_check.specs.declared.path.Kind.TheVariants.{Reads, Writes, Adds, Keeps}
use Rattle.prog_paths.proofs.Counted.{tally-more, tally-look}
use Rattle.prog_paths.proofs.accesses.tally.AccessTally.with.Goals as goal

pub returns-in-Reads : goal.returns-in-Reads
returns-in-Reads c = λ table places p e f behind h.
    tally-more table places p Reads c.args.self _ e (f ∙ c.in-Reads.is) behind h record {
      reads = omega (arith, c.sum.ensures, c.sum-in-Reads.ensures, c.sum-in-Reads-2.ensures);
      looks = omega (arith, h.looks);
      writes = omega (arith, h.writes);
      adds = omega (arith, h.adds);
      questions = omega (arith, c.sum.ensures, c.sum-in-Reads.ensures, c.sum-in-Reads-2.ensures);
    }

pub returns-in-Sees : goal.returns-in-Sees
returns-in-Sees c = λ table places p e f behind h.
    tally-look table places p c.args.kind c.args.self _ e f c.in-Sees.is behind h record {
      reads = omega (arith, h.reads);
      looks = omega (arith, c.sum-in-Sees.ensures, c.sum-in-Sees-2.ensures);
      writes = omega (arith, h.writes);
      adds = omega (arith, h.adds);
      questions = omega (arith, c.sum-in-Sees.ensures, c.sum-in-Sees-2.ensures);
    }

pub returns-in-Writes : goal.returns-in-Writes
returns-in-Writes c = λ table places p e f behind h.
    tally-more table places p Writes c.args.self _ e (f ∙ c.in-Writes.is) behind h record {
      reads = omega (arith, h.reads);
      looks = omega (arith, h.looks);
      writes = omega (arith, c.sum-in-Writes.ensures);
      adds = omega (arith, h.adds);
      questions = omega (arith, c.sum-in-Writes-2.ensures, c.sum-in-Writes-3.ensures, c.sum-in-Writes-4.ensures);
    }

pub returns-in-Adds : goal.returns-in-Adds
returns-in-Adds c = λ table places p e f behind h.
    tally-more table places p Adds c.args.self _ e (f ∙ c.in-Adds.is) behind h record {
      reads = omega (arith, h.reads);
      looks = omega (arith, h.looks);
      writes = omega (arith, h.writes);
      adds = omega (arith, c.sum-in-Adds.ensures);
      questions = omega (arith, c.sum-in-Adds-2.ensures, c.sum-in-Adds-3.ensures);
    }

pub returns-in-Keeps : goal.returns-in-Keeps
returns-in-Keeps c = λ table places p e f behind h.
    tally-more table places p Keeps c.args.self c.args.self e (f ∙ c.in-Keeps.is) behind h record {
      reads = omega (arith, h.reads);
      looks = omega (arith, h.looks);
      writes = omega (arith, h.writes);
      adds = omega (arith, h.adds);
      questions = omega (arith, h.questions);
    }

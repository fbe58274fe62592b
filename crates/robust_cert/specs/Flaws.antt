-- What is wrong with one entry.
use Rattle.std.specs.Prelude.{◌≡◌, ℕ, ℤ, ◌<ℤ◌, ◌*◌, List, length, Some, slice_get}
use Rattle.order_facts.specs.declared.steps.Node.{Node}
use Rattle.order_facts.specs.declared.steps.Node.TheVariants.{Number}
use Rattle.order_facts.specs.declared.steps.Fact.{Fact}
use Rattle.order_facts.specs.Chain.{RunsBetween}
use Rattle.prog_check.specs.declared.path.Access.{Access}
use Rattle.prog_check.specs.declared.path.Path.{Path}
use Rattle.prog_paths.specs.StaticGraph.{QuestionNumbers, AsksOf}
use Rattle.prog_paths.specs.Questions.{Asks}
use Rattle.prog_paths.specs.Facts.{question_facts}
use Rattle.prog_paths.specs.Shown.{key_pairs}
use Rattle.robust_cert.specs.declared.checking.by_facts.AskedPair.{AskedPair}
use Rattle.robust_cert.specs.declared.checking.flaw.EntryFlaw.{EntryFlaw}
use Rattle.robust_cert.specs.declared.checking.flaw.EntryFlaw as flaw
use Rattle.robust_cert.specs.declared.fault.CertFault.{CertFault}
use Rattle.robust_cert.specs.declared.fault.CertFault.TheVariants.{NoSuchEntry, EntryOrder, BadChain, BadCover}
use Rattle.robust_cert.specs.Accepted.{IsCoverOf, IsFitting, ChainsHold, Holds}
use Rattle.robust_cert.specs.Refused.{IsBehindLast, IsNoQuestion, IsOutOfOrder, HasBadCover, HasBadChain}
use Rattle.robust_cert.specs.Sharing.{Entry}

-- the two accesses are those of a question of the paths
pub record IsAskedPair (nodes : List Path) (q : QuestionNumbers) (mine theirs : Access) : Type 0 where
  pub asked : AsksOf nodes q mine theirs
  pub asks : Asks q mine.kind theirs.kind

-- the facts of the question between two accesses
abbrev pub facts_between : AskedPair → List Fact
facts_between asked = question_facts asked.mine.now asked.theirs.now

-- the nodes begin with a number and end with a smaller one
pub record RunsDown (chain : List Node) : Type 0 where
  pub greater : ℤ
  pub smaller : ℤ
  pub falls : smaller <ℤ greater
  pub runs : RunsBetween (Number greater) (Number smaller) chain

-- two accesses cover the question, with so many chains
pub record CoversWith (nodes : List Path) (q : QuestionNumbers) (m t count : ℕ)
    (of_mine of_theirs : Access) : Type 0 where
  pub cover : IsCoverOf nodes q m t of_mine of_theirs
  pub enough : count ≡ 2 * length (key_pairs of_mine of_theirs)

-- which flaw an entry has
abbrev pub IsFlawOf : List Path → Entry → EntryFlaw → Type 0
IsFlawOf nodes e flaw.TheVariants.Cover = ¬ IsFitting nodes e
IsFlawOf nodes e flaw.TheVariants.Chain = IsFitting nodes e × ¬ ChainsHold nodes e

-- the entry of a number holds, and stands behind the one before it
abbrev pub EntryStands : List Path → List Entry → ℕ → Type 0
EntryStands nodes entries k =
    (e : Entry) → slice_get entries k ≡ Some e → Holds nodes e × IsBehindLast entries k e

-- which fault the entry of a number has
abbrev pub IsEntryFault : List Path → List Entry → ℕ → Entry → CertFault → Type 0
IsEntryFault nodes entries k e (NoSuchEntry n) = (n ≡ k) × IsNoQuestion nodes e
IsEntryFault nodes entries k e (EntryOrder n) = (n ≡ k) × IsOutOfOrder nodes entries k e
IsEntryFault nodes entries k e (BadCover n) = (n ≡ k) × HasBadCover nodes entries k e
IsEntryFault nodes entries k e (BadChain n) = (n ≡ k) × HasBadChain nodes entries k e
IsEntryFault nodes entries k e _ = ⊥

abbrev pub IsFaultAt : List Path → List Entry → ℕ → CertFault → Type 0
IsFaultAt nodes entries k fault =
    (e : Entry) → slice_get entries k ≡ Some e → IsEntryFault nodes entries k e fault

use Rattle.std.proofs.Common.{◌≡◌, ◌≢◌, [], false, rules, refl, sym, subst}
use Rattle.clap.specs.Words.{kind_of}
use Rattle.clap.specs.declared.error.kind.ErrorKind.{ErrorKind}
use Rattle.clap.specs.declared.error.kind.ErrorKind.TheVariants as kinds
use Rattle.si_engine.proofs.RunLaws.{writes_just}
use Rattle.sirob.specs.declared.status.Status.TheVariants as status
use Rattle.sirob.specs.Output.{memory_line}
use Rattle.sirob.specs.Program.{is_text, IsModeless, stopped, mistaken}
use Rattle.sirob.proofs.program.refuse_words.Goals as goal

-- neither help nor the version
no_text : (kind : ErrorKind) → kind ≢ kinds.DisplayHelp → kind ≢ kinds.DisplayVersion → is_text kind ≡ false
no_text kinds.InvalidValue help version = refl
no_text kinds.UnknownArgument help version = refl
no_text kinds.InvalidSubcommand help version = refl
no_text kinds.NoEquals help version = refl
no_text kinds.ValueValidation help version = refl
no_text kinds.TooManyValues help version = refl
no_text kinds.TooFewValues help version = refl
no_text kinds.WrongNumberOfValues help version = refl
no_text kinds.ArgumentConflict help version = refl
no_text kinds.MissingRequiredArgument help version = refl
no_text kinds.MissingSubcommand help version = refl
no_text kinds.DisplayHelp help version = absurd (help refl)
no_text kinds.DisplayHelpOnMissingArgumentOrSubcommand help version = refl
no_text kinds.DisplayVersion help version = absurd (version refl)
no_text kinds.Io help version = refl
no_text kinds.Format help version = refl
no_text kinds.OutOfMemory help version = refl

pub returns-then-eq : goal.returns-then-eq
returns-then-eq g c =
    let kind = kind_of c.args.error.now in
    let memory : kind ≡ kinds.OutOfMemory = search rules in
    writes_just status.Faulty (IsModeless kind) memory_line status.Memory _ _ _ _ (subst (λ k. IsModeless k memory_line status.Memory) (sym memory) stopped) c.tell_memory.ensures

pub returns-then-use_stderr : goal.returns-then-use_stderr
returns-then-use_stderr g c =
    let kind = kind_of c.args.error.now in
    let memory : kind ≢ kinds.OutOfMemory = search rules in
    let help : kind ≢ kinds.DisplayHelp = search rules in
    let version : kind ≢ kinds.DisplayVersion = search rules in
    writes_just status.Faulty (IsModeless kind) [] status.Faulty _ _ _ _ (mistaken kind (no_text kind help version) memory) c.tell_nothing.ensures

-- Worked examples of what the words of the command line name.
use Rattle.std.proofs.Common.{◌≡◌, true, false, [], ◌∷◌, codes, refl}
use Rattle.clap.specs.Simple.{subcommand_of}
use Rattle.clap.specs.Faults.{fault_of}
use Rattle.clap.specs.declared.error.kind.ErrorKind.TheVariants.{ArgumentConflict, InvalidValue, ValueValidation}
use Rattle.clap.proofs.OnLiterals.{clap_on_literals}
use Rattle.sirob.specs.CommandLine.{sirob_app, IsNamedBy}
use Rattle.sirob.specs.declared.command_line.Mode.TheVariants.{Certify, Repair, Run, Work}

pub certify_alone : IsNamedBy Certify (subcommand_of sirob_app (codes "sirob" ∷ codes "certify" ∷ []))
unfolding clap_on_literals
certify_alone = refl

pub repair_alone : IsNamedBy (Repair false) (subcommand_of sirob_app (codes "sirob" ∷ codes "repair" ∷ []))
unfolding clap_on_literals
repair_alone = (refl, refl)

pub repair_with_flag : IsNamedBy (Repair true) (subcommand_of sirob_app (codes "sirob" ∷ codes "repair" ∷ codes "--promote" ∷ []))
unfolding clap_on_literals
repair_with_flag = (refl, refl)

pub run_alone : IsNamedBy (Run false) (subcommand_of sirob_app (codes "sirob" ∷ codes "run" ∷ []))
unfolding clap_on_literals
run_alone = (refl, refl)

pub run_with_flag : IsNamedBy (Run true) (subcommand_of sirob_app (codes "sirob" ∷ codes "run" ∷ codes "--robust" ∷ []))
unfolding clap_on_literals
run_with_flag = (refl, refl)

pub work_alone : IsNamedBy (Work 2) (subcommand_of sirob_app (codes "sirob" ∷ codes "work" ∷ []))
unfolding clap_on_literals
work_alone = (refl, refl)

pub work_with_a_number : IsNamedBy (Work 8) (subcommand_of sirob_app (codes "sirob" ∷ codes "work" ∷ codes "--workers" ∷ codes "8" ∷ []))
unfolding clap_on_literals
work_with_a_number = (refl, refl)

pub work_with_an_equals_sign : IsNamedBy (Work 1) (subcommand_of sirob_app (codes "sirob" ∷ codes "work" ∷ codes "--workers=1" ∷ []))
unfolding clap_on_literals
work_with_an_equals_sign = (refl, refl)

pub work_with_255 : IsNamedBy (Work 255) (subcommand_of sirob_app (codes "sirob" ∷ codes "work" ∷ codes "--workers" ∷ codes "255" ∷ []))
unfolding clap_on_literals
work_with_255 = (refl, refl)

pub work_with_255_is_well : fault_of sirob_app (codes "sirob" ∷ codes "work" ∷ codes "--workers" ∷ codes "255" ∷ []) ≡ []
unfolding clap_on_literals
work_with_255_is_well = refl

pub work_with_256 : fault_of sirob_app (codes "sirob" ∷ codes "work" ∷ codes "--workers" ∷ codes "256" ∷ []) ≡ ValueValidation ∷ []
unfolding clap_on_literals
work_with_256 = refl

pub work_without_a_number : fault_of sirob_app (codes "sirob" ∷ codes "work" ∷ codes "--workers" ∷ []) ≡ InvalidValue ∷ []
unfolding clap_on_literals
work_without_a_number = refl

pub work_with_two_numbers :
    fault_of sirob_app (codes "sirob" ∷ codes "work" ∷ codes "--workers=1" ∷ codes "--workers=1" ∷ []) ≡ ArgumentConflict ∷ []
unfolding clap_on_literals
work_with_two_numbers = refl

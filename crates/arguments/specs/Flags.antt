-- The arguments that programs know, and what a row of them asks for. Definitions only.
use Rattle.std.specs.Prelude.{◌≡◌, ◌≢◌, ℕ, ◌<◌, List, [], length, codes, slice_index_or, true}
use Rattle.std.specs.Prelude.{Contains, IsTrue, ◌↔◌}
use Rattle.arguments.specs.declared.flags.Flag.{Flag}
use Rattle.arguments.specs.declared.flags.Flag.TheVariants.{Help, Show, Times}
use Rattle.arguments.specs.declared.flags.Asked.{Asked}

-- how an argument is written
abbrev pub written : Flag → List ℕ
written Help = codes "--help"
written Show = codes "--show"
written Times = codes "--times"

-- what is asked for with a flag more; --help is told at once, and changes nothing of it
abbrev pub with_flag : Asked → Flag → Asked
with_flag asked Help = asked
with_flag asked Show = record { show = true; times = asked.times }
with_flag asked Times = record { show = asked.show; times = true }

-- a flag besides --help that the program takes is written so
abbrev pub Takes : List Flag → List ℕ → Type 0
Takes taken argument = (f : Flag) × (f ≢ Help) × Contains taken f × (argument ≡ written f)

-- it is this flag: --help, or one that the program takes
abbrev pub TakenAs : List Flag → List ℕ → Flag → Type 0
TakenAs taken argument f = (argument ≡ written f) × (f ≢ Help → Takes taken argument)

-- it is neither --help nor a flag that the program takes
abbrev pub Untaken : List Flag → List ℕ → Type 0
Untaken taken argument = (argument ≢ written Help) × (Takes taken argument → ⊥)

-- the argument at place i
abbrev pub argument_at : List (List ℕ) → ℕ → List ℕ
argument_at arguments i = slice_index_or arguments i []

-- the program takes each of the first k arguments
abbrev pub TakesFirst : List Flag → List (List ℕ) → ℕ → Type 0
TakesFirst taken arguments k = (i : ℕ) → i < k → Takes taken (argument_at arguments i)

-- one of the first k arguments is this flag
abbrev pub Among : List (List ℕ) → ℕ → Flag → Type 0
Among arguments k f = (i : ℕ) × (i < k) × (argument_at arguments i ≡ written f)

-- --help is one of the arguments, and the program takes each before it
abbrev pub AsksForHelp : List Flag → List (List ℕ) → Type 0
AsksForHelp taken arguments = (k : ℕ) × (k < length arguments) × TakesFirst taken arguments k
    × (argument_at arguments k ≡ written Help)

-- the program takes each of the arguments, and these are among them
abbrev pub AsksFor : List Flag → List (List ℕ) → Asked → Type 0
AsksFor taken arguments asked =
    TakesFirst taken arguments (length arguments) ×
    (IsTrue asked.show ↔ Among arguments (length arguments) Show) ×
    (IsTrue asked.times ↔ Among arguments (length arguments) Times)

-- the program takes each of the arguments before this one, and not this
abbrev pub FirstUntaken : List Flag → List (List ℕ) → List ℕ → Type 0
FirstUntaken taken arguments found =
    (k : ℕ) × (k < length arguments) × TakesFirst taken arguments k
    × (argument_at arguments k ≡ found) × Untaken taken found

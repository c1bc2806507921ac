-- Programs for contexts of one length: what loading bytes gives, and what running returns.
use Rattle.std.specs.Prelude.{◌≡◌, ◌≢◌, ◌<◌, ◌≤◌, ◌⊎◌, ℕ, List, length, Option}
use Rattle.instruction_set.specs.Machine.{EndsFor, meaning_for}
use Rattle.verifier.specs.Stores.{CodeFor}
use Rattle.verifier.specs.Programs.{IsLoadable, IsLoadFault}
use Rattle.c_calls.specs.declared.codes.HealEnded.{HealEnded}
use Rattle.c_calls.specs.Programs.{IsLoadOf}

-- the bytes spell accepted code, which is kept for contexts of len bytes
pub record IsLoadedFor (len : ℕ) (bytes : List ℕ) (program : CodeFor) : Type 0 where
  pub accepted : IsLoadable len bytes program.code
  pub for : program.context_len ≡ len

-- what loading bytes for contexts of len bytes returns and leaves
abbrev pub IsLoadFor : ℕ → List ℕ → Option CodeFor → Option CodeFor → ℕ → ℕ → Type 0
IsLoadFor len bytes = IsLoadOf (IsLoadable len bytes) (IsLoadFault len bytes) (IsLoadedFor len bytes)

-- no context has more than 65,535 bytes: 92
abbrev pub IsLoadWithin : ℕ → List ℕ → Option CodeFor → Option CodeFor → ℕ → ℕ → Type 0
IsLoadWithin len bytes old new n slot =
    (len ≤ 65535 → IsLoadFor len bytes old new n slot) × (65535 < len → (n ≡ 92) × (slot ≡ 0) × (new ≡ old))

-- what a program answers to a context of its length
pub record AnswersContext (program : CodeFor) (context : List ℕ) (ended : HealEnded) : Type 0 where
  pub fits : length context ≡ program.context_len
  pub ends : EndsFor program.context_len program.code context ended.r0 ended.steps
  pub means : ended.r0 ≡ meaning_for program.context_len program.code context
  pub few : ended.steps ≤ length program.code
  pub clear : ended.reserved ≡ 0

-- a run, or 93 for a context of another length
abbrev pub Runs : CodeFor → List ℕ → HealEnded → HealEnded → ℕ → Type 0
Runs program context old new n =
    ((n ≡ 0) × AnswersContext program context new) ⊎ ((length context ≢ program.context_len) × (n ≡ 93) × (new ≡ old))

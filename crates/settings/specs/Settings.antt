-- What a line that should be a setting answers.
use Rattle.std.specs.Prelude.{◌≡◌, ℕ, ◌^◌, ◌<◌, List, Some, None, Err, Option, Result}
use Rattle.keys.specs.declared.refusal.Refusal.{Refusal}
use Rattle.keys.specs.declared.refusal.Refusal.TheVariants.{BadLine}
use Rattle.places.specs.Made.{MadeUnder, ChoosesBy}
use Rattle.rules.specs.Builtins.{NameSize, name_choices, builtin_count, builtin_places}
use Rattle.settings.specs.Headers.{header_of}
use Rattle.settings.specs.declared.header.Header.{Header}
use Rattle.settings.specs.declared.setting.Setting.{Setting}

-- a seed of 32 bits, and the rule's condition on the number of buckets
pub record HeaderSize (h : Header) : Type 0 where
  pub seed : h.seed < 2 ^ 32
  pub buckets : NameSize h.rule h.buckets

-- the setting that a header asks for
pub record Asked (h : Header) (s : Setting) : Type 0 where
  pub rule : ChoosesBy builtin_count builtin_places (name_choices h.rule) h.buckets h.seed s.rule
  pub seed : s.seed ≡ h.seed
  pub kind : s.kind ≡ h.kind

abbrev pub SettingBy : Option Header → Result Setting Refusal → Type 0
SettingBy None r = r ≡ Err BadLine
SettingBy (Some h) r = MadeUnder (HeaderSize h) (Asked h) r

-- a line that is too long has not the form of a header
abbrev pub SettingOf : Option (List ℕ) → Result Setting Refusal → Type 0
SettingOf None r = r ≡ Err BadLine
SettingOf (Some s) r = SettingBy (header_of s) r

-- `read_word` meets its contract, property by property.
use Rattle.std.proofs.Common.{rules}
use Rattle.std.proofs.Common.{◌∙◌}
use Rattle.load_description.specs.declared.Effect.TheVariants.{Kind as EffectKind, Settings as EffectSettings}
use Rattle.load_description.specs.Lines.{word_read}
use Rattle.load_description.proofs.Words.{mapped, kind_told, setting_told}
use Rattle.load_description.proofs.Description.read_word.Goals as goal

pub returns-in-Kind : goal.returns-in-Kind
unfolding word_read
returns-in-Kind c =
    let m = mapped (λ k. EffectKind k) (λ x y h. search rules) c.read_kind.result c.map.ensures.cases in
    c.ok_or.ensures.value ∙ rw (m, c.outside.ensures, kind_told c.args.value.seen c.read_kind.result, c.in-Kind.is, c.read_kind.ensures)

pub returns-in-Setting : goal.returns-in-Setting
unfolding word_read
returns-in-Setting c =
    let m = mapped (λ v. EffectSettings v) (λ x y h. search rules) c.read_setting.result c.map-in-Setting.ensures.cases in
    c.ok_or-in-Setting.ensures.value
    ∙ rw (m, c.outside-in-Setting.ensures, setting_told c.args.value.seen c.read_setting.result, c.in-Setting.is, c.read_setting.ensures)

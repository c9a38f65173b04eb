use mathlib.Core.Path.{sym, ap, ◌∙◌}
use Rattle.problem.specs.Reading.{rule_of}
use Rattle.problem.proofs.Readings.{rule_read}
use Rattle.checker.specs.Tests.{is_kind, are_fields, is_fitting}
use Rattle.checker.proofs.TestsMet.{kind_passes, kind_fails}
use Rattle.checker.proofs.Answers.{refused_kind, refused_field, refused_fit, ok_rule}
use Rattle.checker.proofs.rule.rule_refusal.Goals as goal

pub returns-in_default : goal.returns-in_default
returns-in_default c =
    let same = ap rule_of c.fields_of-x.ensures ∙ rule_read _ _ in
    refused_kind _ _ _ (sym (ap (λ ρ. is_kind ρ.kind) same) ∙ kind_fails _ c.in_default.ensures.1)

pub returns-then-not-are_fields : goal.returns-then-not-are_fields
returns-then-not-are_fields c =
    let same = ap rule_of c.fields_of-x.ensures ∙ rule_read _ _ in
    refused_field _ _ _ (sym (ap (λ ρ. is_kind ρ.kind) same) ∙ kind_passes _ c.in-Ok.ensures.0)
    (sym (ap (are_fields _) same) ∙ sym c.are_fields.ensures ∙ c.if-not-are_fields.true)

pub returns-then-not-is_fitting : goal.returns-then-not-is_fitting
returns-then-not-is_fitting c =
    let same = ap rule_of c.fields_of-x.ensures ∙ rule_read _ _ in
    refused_fit _ _ _ (sym (ap (λ ρ. is_kind ρ.kind) same) ∙ kind_passes _ c.in-Ok.ensures.0)
    (sym (ap (are_fields _) same) ∙ sym c.are_fields.ensures ∙ c.if-not-are_fields.false)
    (sym (ap (is_fitting _) same) ∙ sym c.is_fitting.ensures ∙ c.if-not-is_fitting.true)

pub returns : goal.returns
returns c =
    let same = ap rule_of c.fields_of-x.ensures ∙ rule_read _ _ in
    ok_rule _ _ _ (sym (ap (λ ρ. is_kind ρ.kind) same) ∙ kind_passes _ c.in-Ok.ensures.0)
    (sym (ap (are_fields _) same) ∙ sym c.are_fields.ensures ∙ c.if-not-are_fields.false)
    (sym (ap (is_fitting _) same) ∙ sym c.is_fitting.ensures ∙ c.if-not-is_fitting.false)

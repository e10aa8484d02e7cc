use Rattle.std.proofs.Common.{◌≡◌, rules, ℕ, Bool, true, cond, List, [], ◌∷◌, ap, ◌∙◌}
use Rattle.std.specs.Map.Calls.{RetainsPairs}
use Rattle.tokei_stats.specs.Overflow.{CountsFit}
use Rattle.tokei_languages.specs.Renewing.{own_sum, renewed, renewed_languages, RenewalFits}
use Rattle.tokei_languages.specs.Seen.{entries_of, language_of}
use Rattle.tokei_languages.specs.declared.language.Language.{Language}
use Rattle.tokei_languages.proofs.totals.renew_all.Goals as goal

-- a call that keeps the entry, with its counts renewed
abbrev IsRenewal : Language → Bool → Language → Type 0
IsRenewal v b w = (b ≡ true) × (CountsFit (own_sum (language_of v).reports) → language_of w ≡ renewed (language_of v))

all_renewed : {F : Type 0} (T : F → ℕ → Language → Bool → Language → F → Type 0)
    → ((f : F) (k : ℕ) (v : Language) (b : Bool) (w : Language) (f' : F) → T f k v b w f' → IsRenewal v b w)
    → (f : F) (es kept : List (ℕ × Language)) → RenewalFits (entries_of es) → RetainsPairs T f es kept
    → entries_of kept ≡ renewed_languages (entries_of es)
all_renewed T step f [] kept fits h = ap entries_of h
all_renewed T step f (e ∷ es) kept fits h =
    let call = step f e.0 e.1 h.0 h.1 h.2 h.4 in
    ap entries_of h.6
    ∙ ap (λ b. entries_of (cond b ((e.0, h.1) ∷ h.3) h.3)) call.0
    ∙ ap (λ s. (e.0, s) ∷ entries_of h.3) (call.1 fits.0)
    ∙ ap (λ fs. (e.0, renewed (language_of e.1)) ∷ fs) (all_renewed T step h.2 es h.3 fits.1 h.5)

pub returns : goal.returns
returns c = all_renewed _ (λ f k v b w f' t. search rules) _ c.args.languages.now.entries c.retain.new.self.entries c.requires c.retain.ensures.filtered

-- How far a doc comment goes.
use Rattle.std.proofs.Common.{◌≡◌, ℕ, ◌≤◌, List, length, Option, None, Some, option_map, refl}
use Rattle.tokei_embedding.specs.DocComments.{DocBlock, doc_block}
use Rattle.tokei_embedding.proofs.DocLaws.{doc_reach}

pub doc_size : (rest : List ℕ) (n : ℕ) → Some n ≡ option_map (λ (b : DocBlock). b.size) (doc_block rest) → n ≤ length rest
doc_size rest n e = by_block (doc_block rest) refl e
  where
    by_block : (o : Option DocBlock) → doc_block rest ≡ o → Some n ≡ option_map (λ (b : DocBlock). b.size) o → n ≤ length rest
    by_block None f e = cc
    by_block (Some b) f e = let h = (doc_reach rest b f).within in let s : n ≡ b.size = cc in rw s h

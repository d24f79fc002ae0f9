-- The last chunk of a list that is cut where neighbours don't go together, and what one more element does to it.
use Rattle.std.proofs.Common.{◌≡◌, Bool, true, false, cond, Option, Some, None, List, [], ◌∷◌, ◌++◌, refl, sym, ap, ◌∙◌}
use Rattle.std.specs.List.{last_or}
use Rattle.std.specs.Option.{option_map_or}
use Rattle.std.proofs.lemmas.Bool.{true≢false}
use Rattle.bc_bio.specs.Chunks.{chunks_with, chunk_by, joins_last, chunks_and, Linked}
use Rattle.bc_bio.proofs.ChunkLaws.{chunks_and-joined, chunks_and-apart, chunk_by-more}

pub last_push : {X : Type 0} (o : Option X) (xs : List X) (x : X) → last_or o (xs ++ x ∷ []) ≡ Some x
last_push o [] x = refl
last_push o (y ∷ ys) x = last_push (Some y) ys x

-- the last element decides whether one more goes with it
pub joins_by_last : {X : Type 0} (together : X → X → Bool) (xs : List X) (x : X) → joins_last together xs x ≡ option_map_or (λ l. together l x) (last_or None xs) false
joins_by_last together [] x = refl
joins_by_last together (y ∷ []) x = refl
joins_by_last together (y ∷ z ∷ zs) x = joins_by_last together (z ∷ zs) x

-- the last chunk: it ends as the list does, and its elements go together
pub record LastChunk (X : Type 0) (together : X → X → Bool) (xs : List X) : Type 0 where
  pub before : List (List X)
  pub last : List X
  pub cut : chunk_by together xs ≡ before ++ last ∷ []
  pub ends : last_or None last ≡ last_or None xs
  pub linked : Linked together last

pub last_chunk : {X : Type 0} (together : X → X → Bool) (x : X) (xs : List X) → LastChunk X together (x ∷ xs)
last_chunk together x [] = record { before = []; last = x ∷ []; cut = refl; ends = refl; linked = tt }
last_chunk {X} together x (y ∷ ys) = let r = last_chunk together y ys in grown r.before r.last r.cut r.ends r.linked
  where
    grown : (before : List (List X)) (last : List X) → chunk_by together (y ∷ ys) ≡ before ++ last ∷ [] → last_or None last ≡ last_or None (y ∷ ys) → Linked together last
        → LastChunk X together (x ∷ y ∷ ys)
    grown [] [] cut ends linked = record { before = (x ∷ []) ∷ []; last = []; cut = ap (λ (cs : List (List X)). chunks_with together x cs) cut; ends = ends; linked = tt }
    grown [] (z ∷ zs) cut ends linked =
        (elim (together x z) as (λ (b : Bool). together x z ≡ b → LastChunk X together (x ∷ y ∷ ys)) [
          | true ↦ λ is. record {
            before = [];
            last = x ∷ z ∷ zs;
            cut = ap (λ (cs : List (List X)). chunks_with together x cs) cut ∙ ap (λ (b : Bool). cond b ((x ∷ z ∷ zs) ∷ []) ((x ∷ []) ∷ (z ∷ zs) ∷ [])) is;
            ends = ends;
            linked = (is, linked);
          }
          | false ↦ λ is. record {
            before = (x ∷ []) ∷ [];
            last = z ∷ zs;
            cut = ap (λ (cs : List (List X)). chunks_with together x cs) cut ∙ ap (λ (b : Bool). cond b ((x ∷ z ∷ zs) ∷ []) ((x ∷ []) ∷ (z ∷ zs) ∷ [])) is;
            ends = ends;
            linked = linked;
          }
        ]) refl
    grown ([] ∷ before) last cut ends linked =
        record { before = (x ∷ []) ∷ [] ∷ before; last = last; cut = ap (λ (cs : List (List X)). chunks_with together x cs) cut; ends = ends; linked = linked }
    grown ((z ∷ zs) ∷ before) last cut ends linked =
        (elim (together x z) as (λ (b : Bool). together x z ≡ b → LastChunk X together (x ∷ y ∷ ys)) [
          | true ↦ λ is. record {
            before = (x ∷ z ∷ zs) ∷ before;
            last = last;
            cut = ap (λ (cs : List (List X)). chunks_with together x cs) cut ∙ ap (λ (b : Bool). cond b ((x ∷ z ∷ zs) ∷ before ++ last ∷ []) ((x ∷ []) ∷ (z ∷ zs) ∷ before ++ last ∷ [])) is;
            ends = ends;
            linked = linked;
          }
          | false ↦ λ is. record {
            before = (x ∷ []) ∷ (z ∷ zs) ∷ before;
            last = last;
            cut = ap (λ (cs : List (List X)). chunks_with together x cs) cut ∙ ap (λ (b : Bool). cond b ((x ∷ z ∷ zs) ∷ before ++ last ∷ []) ((x ∷ []) ∷ (z ∷ zs) ∷ before ++ last ∷ [])) is;
            ends = ends;
            linked = linked;
          }
        ]) refl

-- one more element goes with the last one
pub record Joined (X : Type 0) (together : X → X → Bool) (xs : List X) (x : X) : Type 0 where
  pub before : List (List X)
  pub last : List X
  pub cut : chunk_by together xs ≡ before ++ last ∷ []
  pub more : chunk_by together (xs ++ x ∷ []) ≡ before ++ (last ++ x ∷ []) ∷ []
  pub ends : last_or None last ≡ last_or None xs
  pub linked : Linked together last

pub joined_more : {X : Type 0} (together : X → X → Bool) (xs : List X) (x : X) → joins_last together xs x ≡ true → Joined X together xs x
joined_more together [] x is = absurd (true≢false (sym is))
joined_more {X} together (y ∷ ys) x is =
    let r = last_chunk together y ys in
    record {
      before = r.before;
      last = r.last;
      cut = r.cut;
      more = chunk_by-more together (y ∷ ys) x ∙ ap (λ (cs : List (List X)). chunks_and together cs x) r.cut
          ∙ chunks_and-joined together r.before r.last x
          (joins_by_last together r.last x ∙ ap (λ (o : Option X). option_map_or (λ l. together l x) o false) r.ends ∙ sym (joins_by_last together (y ∷ ys) x) ∙ is);
      ends = r.ends;
      linked = r.linked;
    }

-- it doesn't
pub apart_more : {X : Type 0} (together : X → X → Bool) (xs : List X) (x : X) → joins_last together xs x ≡ false → chunk_by together (xs ++ x ∷ []) ≡ chunk_by together xs ++ (x ∷ []) ∷ []
apart_more together [] x is = refl
apart_more {X} together (y ∷ ys) x is =
    let r = last_chunk together y ys in
    chunk_by-more together (y ∷ ys) x ∙ ap (λ (cs : List (List X)). chunks_and together cs x) r.cut
    ∙ chunks_and-apart together r.before r.last x
    (joins_by_last together r.last x ∙ ap (λ (o : Option X). option_map_or (λ l. together l x) o false) r.ends ∙ sym (joins_by_last together (y ∷ ys) x) ∙ is)
    ∙ ap (λ (cs : List (List X)). cs ++ (x ∷ []) ∷ []) (sym r.cut)

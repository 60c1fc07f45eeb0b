-- What was made from an image that was read.
use Rattle.std.proofs.Common.{◌≡◌, ℕ, ◌<◌, ◌≤◌, List, IsTrue, sym, ap, ◌∙◌, subst, inl, inr, arith}
use Rattle.tex_world.specs.World.{Files}
use Rattle.tex_world.specs.Stream.{Appends, AppendsPart}
use Rattle.tex_make.specs.declared.ending.MakeError.TheVariants.{NoMemory}
use Rattle.tex_make.specs.declared.picture.Pyramid.{Pyramid}
use Rattle.tex_make.specs.Good.{IsTextureOf}
use Rattle.tex_make.specs.Make.{Around, Reads, Makes, LacksFile, WritesTexture, WritesPart, LeavesFolder}
use Rattle.tex_make.specs.Picture.{Picture, AreAlike, picture_of, samples_of, max_samples}
use Rattle.tex_make.specs.Pyramid.{seen}
use Rattle.tex_make.specs.Reading.{IsPictureOf}
use Rattle.tex_make.specs.Side.{IsMadeSide}
use Rattle.tex_make.specs.Sink.{SinkState}
use Rattle.tex_make.specs.Texture.{texture_of, made_of}
use Rattle.tex_make.specs.Words.{Wanted}
use Rattle.tex_make.specs.Writing.{PutsPicture}
use Rattle.tex_make.proofs.Alike.{texture_alike}
use Rattle.tex_make.proofs.Sizes.{short_texture}
use Rattle.tex_make.proofs.TextureGood.{texture_is as good_texture}

-- a texture of an image is one of every equal image
of_alike : (p q : Picture) (texture : List ℕ) → AreAlike p q → IsTextureOf p texture
    → IsTextureOf q texture
of_alike p q texture same is = record {
  good = is.good;
  stored = is.stored ∙ same.levels;
  width = λ l below.
      let low : l < p.levels = omega (arith, below, same.levels) in is.width l low ∙ same.width l low;
  height = λ l below.
      let low : l < p.levels = omega (arith, below, same.levels) in is.height l low ∙ same.height l low;
  channels = is.channels ∙ same.channels;
  depth = is.depth ∙ same.depth;
  samples = λ l x y c below across down channel.
      let low : l < p.levels = omega (arith, below, same.levels) in
      let right : x < p.width l = omega (arith, across, same.width l low) in
      let under : y < p.height l = omega (arith, down, same.height l low) in
      let own : c < p.channels = omega (arith, channel, same.channels) in
      is.samples l x y c low right under own ∙ same.samples l x y c low right under own;
}

-- a fact of the bytes that were read, from another fact
reads_so : (files : Files) (asked : Wanted) (old new : Around) (P Q : List ℕ → Type 0)
    → ((bytes : List ℕ) → P bytes → Q bytes) → Reads files asked new.folder P
    → Reads files asked new.folder Q
reads_so files asked old new P Q by reads = record {
  entered = reads.entered;
  file = reads.file;
  named = reads.named;
  read = record {
    generation = reads.read.generation;
    real = reads.read.real;
    told = λ bytes told. by bytes (reads.read.told bytes told);
  };
}

module _ (picture : Pyramid) (bytes : List ℕ) (side : ℕ) (is : IsPictureOf bytes picture) where
  -- the texture is that of the bytes
  texture_is : texture_of (seen picture) side ≡ made_of bytes side
  texture_is = texture_alike (seen picture) (picture_of bytes) is.alike picture.known.channels.low side

  -- the texture is valid, and stores its levels
  texture_good : IsMadeSide side → samples_of (seen picture) ≤ max_samples
      → IsTextureOf (picture_of bytes) (made_of bytes side)
  texture_good made small =
      subst (λ (t : List ℕ). IsTextureOf (picture_of bytes) t) texture_is
      (of_alike (seen picture) (picture_of bytes) (texture_of (seen picture) side) is.alike
      (good_texture (seen picture) picture.known side made
      (short_texture (seen picture) picture.known side made small)))

pub makes_of : (files : Files) (asked : Wanted) (old new : Around) (ends : ℕ) (picture : Pyramid)
    → Reads files asked new.folder (λ bytes. IsPictureOf bytes picture)
    → IsMadeSide asked.side → samples_of (seen picture) ≤ max_samples
    → PutsPicture (texture_of (seen picture) asked.side) old.sink new.sink ends
    → (LacksFile asked new.folder → ⊥) → (IsTrue new.folder.over → ⊥)
    → new.folder.moves ≡ old.folder.moves → LeavesFolder old.folder new.folder
    → Makes files asked old new ends
makes_of files asked old new ends picture reads side_in small (inl made) there calm still folder = record {
  ends_as = inl (
    made.0,
    reads_so files asked old new (λ bytes. IsPictureOf bytes picture)
        (WritesTexture asked old new)
        (λ bytes is. (
          is.source,
          texture_good picture bytes asked.side is side_in small,
          subst (λ (t : List ℕ). Appends t old.sink.holds new.sink.holds)
              (texture_is picture bytes asked.side is) made.1.written,
        )) reads,
  );
  absent = (λ lacks. absurd (there lacks), λ seven. absurd (omega (arith, seven, made.0)));
  mark = (λ over. absurd (calm over), λ eleven. absurd (omega (arith, eleven, made.0)));
  moves = λ _. still;
  folder = folder;
  sink = made.1.faults;
}
makes_of files asked old new ends picture reads side_in small (inr (inl cut)) there calm still folder = record {
  ends_as = inr (inl (
    cut.0,
    record {
      failed = cut.1.failed;
      part = reads_so files asked old new (λ bytes. IsPictureOf bytes picture)
          (WritesPart asked old new)
          (λ bytes is. (
            is.source,
            subst (λ (t : List ℕ). AppendsPart t old.sink.holds new.sink.holds)
                (texture_is picture bytes asked.side is) cut.1.part,
          )) reads;
    },
  ));
  absent = (λ lacks. absurd (there lacks), λ seven. absurd (omega (arith, seven, cut.0)));
  mark = (λ over. absurd (calm over), λ eleven. absurd (omega (arith, eleven, cut.0)));
  moves = λ _. still;
  folder = folder;
  sink = cut.1.failed.later;
}
makes_of files asked old new ends picture reads side_in small (inr (inr none)) there calm still folder = record {
  ends_as = inr (inr (record {
    ending = NoMemory;
    of_status = sym none.0;
    cause = tt;
    sink = none.1;
  }));
  absent = (λ lacks. absurd (there lacks), λ seven. absurd (omega (arith, seven, none.0)));
  mark = (λ over. absurd (calm over), λ eleven. absurd (omega (arith, eleven, none.0)));
  moves = λ _. still;
  folder = folder;
  sink = omega (arith, ap (λ (s : SinkState). s.faults) none.1);
}

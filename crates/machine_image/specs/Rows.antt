-- Laws, for the proofs of this crate and of those above it.
-- A worked row: the image of a run with two live locals and one free cell.
use Rattle.std.proofs.Common.{◌≡◌, [], ◌∷◌, refl}
use Rattle.std.specs.Prelude.{pos, codes}
use Rattle.text_lines.specs.Numbers.{digits, number}
use Rattle.machine_image.specs.Images.{Image, image_text}
use Rattle.machine_image.specs.Reading.{counts_by}

row : Image
row = record {
  counts = counts_by 1 (pos 0) 0 9 0 1;
  frames = record { func = 0; block = 0; place = 1; live = record { local = 0; word = 2 } ∷ record { local = 1; word = 3 } ∷ [] } ∷ [];
  cells = record { tag = 4294967295; w0 = 4294967295; w1 = 0; w2 = 0; w3 = 0 } ∷ [];
}

row_text : image_text row ≡ codes "grail image 1\ncalls 1 net 0 peak 0 fuel 9 free 0 cells 1\nframe 0 0 1\nlocal 0 2\nlocal 1 3\ncell 4294967295 4294967295 0 0 0\nend\n"
unfolding row image_text number digits
row_text = refl

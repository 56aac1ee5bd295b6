-- The names of some variables, modules and temporaries in C++.
use Rattle.std.proofs.Common.{◌≡◌, refl, codes}
use Rattle.std.specs.Fmt.{digits}
use Rattle.shed_meaning.specs.EmittedName.{global_name, body_name, temporary_name}

plain : global_name 0 (codes "total") ≡ codes "g_0_total"
unfolding digits
plain = refl

-- an underscore right behind the prefix's
underscore : global_name 0 (codes "_") ≡ codes "g_0_Z_"
unfolding digits
underscore = refl

two_underscores : global_name 0 (codes "__x") ≡ codes "g_0_Z_Z_x"
unfolding digits
two_underscores = refl

letter : global_name 0 (codes "Z") ≡ codes "g_0_ZZ"
unfolding digits
letter = refl

-- the letter is doubled, and the underscore behind it stands for itself
letter_and_underscore : global_name 0 (codes "aZ_") ≡ codes "g_0_aZZ_"
unfolding digits
letter_and_underscore = refl

underscore_last : global_name 0 (codes "x_") ≡ codes "g_0_x_"
unfolding digits
underscore_last = refl

-- the second of three underscores, and the third, stand behind a written one
underscores_within : global_name 0 (codes "a___b") ≡ codes "g_0_a_Z_Z_b"
unfolding digits
underscores_within = refl

-- a name that looks like what another is written as
looks_written : global_name 0 (codes "Z_") ≡ codes "g_0_ZZ_"
unfolding digits
looks_written = refl

-- a capital or a digit stands for itself
other_letters : global_name 0 (codes "Az09z") ≡ codes "g_0_Az09z"
unfolding digits
other_letters = refl

twelfth_module : global_name 12 (codes "x") ≡ codes "g_12_x"
unfolding digits
twelfth_module = refl

-- what C++ keeps for itself is a Python name like others
cpp_keyword : global_name 0 (codes "int") ≡ codes "g_0_int"
unfolding digits
cpp_keyword = refl

bodies : (body_name (codes "main") ≡ codes "body_main") × (body_name (codes "Z") ≡ codes "body_ZZ") × (body_name (codes "_x") ≡ codes "body_Z_x") × (body_name (codes "__name__") ≡ codes "body_Z_Z_name_Z_")
bodies = (refl, refl, refl, refl)

temporaries : (temporary_name 0 ≡ codes "t_0") × (temporary_name 10 ≡ codes "t_10")
unfolding digits
temporaries = (refl, refl)

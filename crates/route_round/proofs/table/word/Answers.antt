-- `route_round::table::word` meets its contract: one test, which antt computes, says at each of the 128 words that its sixteen entries are the
-- walking rule's; an arm has its word.
-- Assumes nothing.
use mathlib.Core.Path.{◌≡◌, refl, ◌∙◌}
use mathlib.Core.Bool.{Bool, true}
use mathlib.Core.List.{List, [], ◌∷◌}
use Prim.Native.Nat.{ℕ, ◌*◌, ◌<◌}
use lib.Dec.{eqb, ltb}
use lib.ListN.{length, get_or}
use borrow.Author.Tests.{ltb-true, eqb-true}
use Rattle.route_round.specs.Round.{first_serving}
use Rattle.route_round.specs.Table.{digits, word}
use Rattle.route_round.proofs.Words.{every, at_each}
use Rattle.route_round.proofs.table.word.Goals as goal

abbrev words : List ℕ
words = 2290649224 ∷ 69005807889 ∷ 2337034871330 ∷ 2268029063697 ∷ 56282110440243 ∷ 56144098833169 ∷ 55113593008674 ∷ 55044587205137 ∷ 1200942720762948 ∷ 1200735703548945 ∷ 1198605686030882 ∷ 1198536680292881 ∷ 1182182017348403 ∷ 1182044005872401 ∷ 1181013499982370 ∷ 1180944494244369 ∷ 24019176537806165 ∷ 24018900519048465 ∷ 24015670988853794 ∷ 24015601984164369 ∷ 23981655133074227 ∷ 23981517123695377 ∷ 23980486616756770 ∷ 23980417612067345 ∷ 23718940858664004 ∷ 23718733844595729 ∷ 23716603826029090 ∷ 23716534821339665 ∷ 23700180156298035 ∷ 23700042146919185 ∷ 23699011639980578 ∷ 23698942635291153 ∷ 461168576072935014 ∷ 461168231133373969 ∷ 461163902074774050 ∷ 461163833086861841 ∷ 461112294016168755 ∷ 461112156040344337 ∷ 461111125516628514 ∷ 461111056528716305 ∷ 460568104748205124 ∷ 460567897784468497 ∷ 460565767749124642 ∷ 460565698761212433 ∷ 460549344062616371 ∷ 460549206086791953 ∷ 460548175563076130 ∷ 460548106575163921 ∷ 456364740782150997 ∷ 456364464830502161 ∷ 456361235283530274 ∷ 456361166295618065 ∷ 456327219410973491 ∷ 456327081435149073 ∷ 456326050911433250 ∷ 456325981923521041 ∷ 456064505119786052 ∷ 456064298156049425 ∷ 456062168120705570 ∷ 456062099132793361 ∷ 456045744434197299 ∷ 456045606458372881 ∷ 456044575934657058 ∷ 456044506946744849 ∷ 8608480537666353015 ∷ 8608480125349492497 ∷ 8608474696510829090 ∷ 8608474627791352337 ∷ 8608405495997739827 ∷ 8608405358558786321 ∷ 8608404327766635042 ∷ 8608404259047158289 ∷ 8607579831484564548 ∷ 8607579625326134289 ∷ 8607577495022354978 ∷ 8607577426302878225 ∷ 8607561071067411251 ∷ 8607560933628457745 ∷ 8607559902836306466 ∷ 8607559834116829713 ∷ 8598872867621655893 ∷ 8598872592743748881 ∷ 8598869362928341538 ∷ 8598869294208864785 ∷ 8598835346787349299 ∷ 8598835209348395793 ∷ 8598834178556244514 ∷ 8598834109836767761 ∷ 8598572632227726404 ∷ 8598572426069296145 ∷ 8598570295765516834 ∷ 8598570227046040081 ∷ 8598553871810573107 ∷ 8598553734371619601 ∷ 8598552703579468322 ∷ 8598552634859991569 ∷ 8531619108589299302 ∷ 8531618764991915537 ∷ 8531614435664880162 ∷ 8531614366945403409 ∷ 8531562827337839411 ∷ 8531562689898885905 ∷ 8531561659106734626 ∷ 8531561590387257873 ∷ 8531018637801440324 ∷ 8531018431643010065 ∷ 8531016301339230754 ∷ 8531016232619754001 ∷ 8530999877384287027 ∷ 8530999739945333521 ∷ 8530998709153182242 ∷ 8530998640433705489 ∷ 8526815273566950741 ∷ 8526814998689043729 ∷ 8526811768873636386 ∷ 8526811700154159633 ∷ 8526777752732644147 ∷ 8526777615293690641 ∷ 8526776584501539362 ∷ 8526776515782062609 ∷ 8526515038173021252 ∷ 8526514832014590993 ∷ 8526512701710811682 ∷ 8526512632991334929 ∷ 8526496277755867955 ∷ 8526496140316914449 ∷ 8526495109524763170 ∷ 8526495040805286417 ∷ []

abbrev right : ℕ → ℕ → Bool
right k x = eqb x (digits 16 (16 * k))

shown : every right 0 words ≡ true
unfolding first_serving digits
shown = refl

arm : (k at : ℕ) → at ≡ k → ltb k 128 ≡ true → get_or words k 0 ≡ word at
arm k at e h =
    let in_table : k < length words = ltb-true k 128 h in
    eqb-true (get_or words k 0) (digits 16 (16 * k)) (at_each right words shown k in_table) ∙ simp (e, h)

pub returns-in-0 : goal.returns-in-0
returns-in-0 c = arm 0 c.args.at c.in-0.is refl

pub returns-in-1 : goal.returns-in-1
returns-in-1 c = arm 1 c.args.at c.in-1.is refl

pub returns-in-2 : goal.returns-in-2
returns-in-2 c = arm 2 c.args.at c.in-2.is refl

pub returns-in-3 : goal.returns-in-3
returns-in-3 c = arm 3 c.args.at c.in-3.is refl

pub returns-in-4 : goal.returns-in-4
returns-in-4 c = arm 4 c.args.at c.in-4.is refl

pub returns-in-5 : goal.returns-in-5
returns-in-5 c = arm 5 c.args.at c.in-5.is refl

pub returns-in-6 : goal.returns-in-6
returns-in-6 c = arm 6 c.args.at c.in-6.is refl

pub returns-in-7 : goal.returns-in-7
returns-in-7 c = arm 7 c.args.at c.in-7.is refl

pub returns-in-8 : goal.returns-in-8
returns-in-8 c = arm 8 c.args.at c.in-8.is refl

pub returns-in-9 : goal.returns-in-9
returns-in-9 c = arm 9 c.args.at c.in-9.is refl

pub returns-in-10 : goal.returns-in-10
returns-in-10 c = arm 10 c.args.at c.in-10.is refl

pub returns-in-11 : goal.returns-in-11
returns-in-11 c = arm 11 c.args.at c.in-11.is refl

pub returns-in-12 : goal.returns-in-12
returns-in-12 c = arm 12 c.args.at c.in-12.is refl

pub returns-in-13 : goal.returns-in-13
returns-in-13 c = arm 13 c.args.at c.in-13.is refl

pub returns-in-14 : goal.returns-in-14
returns-in-14 c = arm 14 c.args.at c.in-14.is refl

pub returns-in-15 : goal.returns-in-15
returns-in-15 c = arm 15 c.args.at c.in-15.is refl

pub returns-in-16 : goal.returns-in-16
returns-in-16 c = arm 16 c.args.at c.in-16.is refl

pub returns-in-17 : goal.returns-in-17
returns-in-17 c = arm 17 c.args.at c.in-17.is refl

pub returns-in-18 : goal.returns-in-18
returns-in-18 c = arm 18 c.args.at c.in-18.is refl

pub returns-in-19 : goal.returns-in-19
returns-in-19 c = arm 19 c.args.at c.in-19.is refl

pub returns-in-20 : goal.returns-in-20
returns-in-20 c = arm 20 c.args.at c.in-20.is refl

pub returns-in-21 : goal.returns-in-21
returns-in-21 c = arm 21 c.args.at c.in-21.is refl

pub returns-in-22 : goal.returns-in-22
returns-in-22 c = arm 22 c.args.at c.in-22.is refl

pub returns-in-23 : goal.returns-in-23
returns-in-23 c = arm 23 c.args.at c.in-23.is refl

pub returns-in-24 : goal.returns-in-24
returns-in-24 c = arm 24 c.args.at c.in-24.is refl

pub returns-in-25 : goal.returns-in-25
returns-in-25 c = arm 25 c.args.at c.in-25.is refl

pub returns-in-26 : goal.returns-in-26
returns-in-26 c = arm 26 c.args.at c.in-26.is refl

pub returns-in-27 : goal.returns-in-27
returns-in-27 c = arm 27 c.args.at c.in-27.is refl

pub returns-in-28 : goal.returns-in-28
returns-in-28 c = arm 28 c.args.at c.in-28.is refl

pub returns-in-29 : goal.returns-in-29
returns-in-29 c = arm 29 c.args.at c.in-29.is refl

pub returns-in-30 : goal.returns-in-30
returns-in-30 c = arm 30 c.args.at c.in-30.is refl

pub returns-in-31 : goal.returns-in-31
returns-in-31 c = arm 31 c.args.at c.in-31.is refl

pub returns-in-32 : goal.returns-in-32
returns-in-32 c = arm 32 c.args.at c.in-32.is refl

pub returns-in-33 : goal.returns-in-33
returns-in-33 c = arm 33 c.args.at c.in-33.is refl

pub returns-in-34 : goal.returns-in-34
returns-in-34 c = arm 34 c.args.at c.in-34.is refl

pub returns-in-35 : goal.returns-in-35
returns-in-35 c = arm 35 c.args.at c.in-35.is refl

pub returns-in-36 : goal.returns-in-36
returns-in-36 c = arm 36 c.args.at c.in-36.is refl

pub returns-in-37 : goal.returns-in-37
returns-in-37 c = arm 37 c.args.at c.in-37.is refl

pub returns-in-38 : goal.returns-in-38
returns-in-38 c = arm 38 c.args.at c.in-38.is refl

pub returns-in-39 : goal.returns-in-39
returns-in-39 c = arm 39 c.args.at c.in-39.is refl

pub returns-in-40 : goal.returns-in-40
returns-in-40 c = arm 40 c.args.at c.in-40.is refl

pub returns-in-41 : goal.returns-in-41
returns-in-41 c = arm 41 c.args.at c.in-41.is refl

pub returns-in-42 : goal.returns-in-42
returns-in-42 c = arm 42 c.args.at c.in-42.is refl

pub returns-in-43 : goal.returns-in-43
returns-in-43 c = arm 43 c.args.at c.in-43.is refl

pub returns-in-44 : goal.returns-in-44
returns-in-44 c = arm 44 c.args.at c.in-44.is refl

pub returns-in-45 : goal.returns-in-45
returns-in-45 c = arm 45 c.args.at c.in-45.is refl

pub returns-in-46 : goal.returns-in-46
returns-in-46 c = arm 46 c.args.at c.in-46.is refl

pub returns-in-47 : goal.returns-in-47
returns-in-47 c = arm 47 c.args.at c.in-47.is refl

pub returns-in-48 : goal.returns-in-48
returns-in-48 c = arm 48 c.args.at c.in-48.is refl

pub returns-in-49 : goal.returns-in-49
returns-in-49 c = arm 49 c.args.at c.in-49.is refl

pub returns-in-50 : goal.returns-in-50
returns-in-50 c = arm 50 c.args.at c.in-50.is refl

pub returns-in-51 : goal.returns-in-51
returns-in-51 c = arm 51 c.args.at c.in-51.is refl

pub returns-in-52 : goal.returns-in-52
returns-in-52 c = arm 52 c.args.at c.in-52.is refl

pub returns-in-53 : goal.returns-in-53
returns-in-53 c = arm 53 c.args.at c.in-53.is refl

pub returns-in-54 : goal.returns-in-54
returns-in-54 c = arm 54 c.args.at c.in-54.is refl

pub returns-in-55 : goal.returns-in-55
returns-in-55 c = arm 55 c.args.at c.in-55.is refl

pub returns-in-56 : goal.returns-in-56
returns-in-56 c = arm 56 c.args.at c.in-56.is refl

pub returns-in-57 : goal.returns-in-57
returns-in-57 c = arm 57 c.args.at c.in-57.is refl

pub returns-in-58 : goal.returns-in-58
returns-in-58 c = arm 58 c.args.at c.in-58.is refl

pub returns-in-59 : goal.returns-in-59
returns-in-59 c = arm 59 c.args.at c.in-59.is refl

pub returns-in-60 : goal.returns-in-60
returns-in-60 c = arm 60 c.args.at c.in-60.is refl

pub returns-in-61 : goal.returns-in-61
returns-in-61 c = arm 61 c.args.at c.in-61.is refl

pub returns-in-62 : goal.returns-in-62
returns-in-62 c = arm 62 c.args.at c.in-62.is refl

pub returns-in-63 : goal.returns-in-63
returns-in-63 c = arm 63 c.args.at c.in-63.is refl

pub returns-in-64 : goal.returns-in-64
returns-in-64 c = arm 64 c.args.at c.in-64.is refl

pub returns-in-65 : goal.returns-in-65
returns-in-65 c = arm 65 c.args.at c.in-65.is refl

pub returns-in-66 : goal.returns-in-66
returns-in-66 c = arm 66 c.args.at c.in-66.is refl

pub returns-in-67 : goal.returns-in-67
returns-in-67 c = arm 67 c.args.at c.in-67.is refl

pub returns-in-68 : goal.returns-in-68
returns-in-68 c = arm 68 c.args.at c.in-68.is refl

pub returns-in-69 : goal.returns-in-69
returns-in-69 c = arm 69 c.args.at c.in-69.is refl

pub returns-in-70 : goal.returns-in-70
returns-in-70 c = arm 70 c.args.at c.in-70.is refl

pub returns-in-71 : goal.returns-in-71
returns-in-71 c = arm 71 c.args.at c.in-71.is refl

pub returns-in-72 : goal.returns-in-72
returns-in-72 c = arm 72 c.args.at c.in-72.is refl

pub returns-in-73 : goal.returns-in-73
returns-in-73 c = arm 73 c.args.at c.in-73.is refl

pub returns-in-74 : goal.returns-in-74
returns-in-74 c = arm 74 c.args.at c.in-74.is refl

pub returns-in-75 : goal.returns-in-75
returns-in-75 c = arm 75 c.args.at c.in-75.is refl

pub returns-in-76 : goal.returns-in-76
returns-in-76 c = arm 76 c.args.at c.in-76.is refl

pub returns-in-77 : goal.returns-in-77
returns-in-77 c = arm 77 c.args.at c.in-77.is refl

pub returns-in-78 : goal.returns-in-78
returns-in-78 c = arm 78 c.args.at c.in-78.is refl

pub returns-in-79 : goal.returns-in-79
returns-in-79 c = arm 79 c.args.at c.in-79.is refl

pub returns-in-80 : goal.returns-in-80
returns-in-80 c = arm 80 c.args.at c.in-80.is refl

pub returns-in-81 : goal.returns-in-81
returns-in-81 c = arm 81 c.args.at c.in-81.is refl

pub returns-in-82 : goal.returns-in-82
returns-in-82 c = arm 82 c.args.at c.in-82.is refl

pub returns-in-83 : goal.returns-in-83
returns-in-83 c = arm 83 c.args.at c.in-83.is refl

pub returns-in-84 : goal.returns-in-84
returns-in-84 c = arm 84 c.args.at c.in-84.is refl

pub returns-in-85 : goal.returns-in-85
returns-in-85 c = arm 85 c.args.at c.in-85.is refl

pub returns-in-86 : goal.returns-in-86
returns-in-86 c = arm 86 c.args.at c.in-86.is refl

pub returns-in-87 : goal.returns-in-87
returns-in-87 c = arm 87 c.args.at c.in-87.is refl

pub returns-in-88 : goal.returns-in-88
returns-in-88 c = arm 88 c.args.at c.in-88.is refl

pub returns-in-89 : goal.returns-in-89
returns-in-89 c = arm 89 c.args.at c.in-89.is refl

pub returns-in-90 : goal.returns-in-90
returns-in-90 c = arm 90 c.args.at c.in-90.is refl

pub returns-in-91 : goal.returns-in-91
returns-in-91 c = arm 91 c.args.at c.in-91.is refl

pub returns-in-92 : goal.returns-in-92
returns-in-92 c = arm 92 c.args.at c.in-92.is refl

pub returns-in-93 : goal.returns-in-93
returns-in-93 c = arm 93 c.args.at c.in-93.is refl

pub returns-in-94 : goal.returns-in-94
returns-in-94 c = arm 94 c.args.at c.in-94.is refl

pub returns-in-95 : goal.returns-in-95
returns-in-95 c = arm 95 c.args.at c.in-95.is refl

pub returns-in-96 : goal.returns-in-96
returns-in-96 c = arm 96 c.args.at c.in-96.is refl

pub returns-in-97 : goal.returns-in-97
returns-in-97 c = arm 97 c.args.at c.in-97.is refl

pub returns-in-98 : goal.returns-in-98
returns-in-98 c = arm 98 c.args.at c.in-98.is refl

pub returns-in-99 : goal.returns-in-99
returns-in-99 c = arm 99 c.args.at c.in-99.is refl

pub returns-in-100 : goal.returns-in-100
returns-in-100 c = arm 100 c.args.at c.in-100.is refl

pub returns-in-101 : goal.returns-in-101
returns-in-101 c = arm 101 c.args.at c.in-101.is refl

pub returns-in-102 : goal.returns-in-102
returns-in-102 c = arm 102 c.args.at c.in-102.is refl

pub returns-in-103 : goal.returns-in-103
returns-in-103 c = arm 103 c.args.at c.in-103.is refl

pub returns-in-104 : goal.returns-in-104
returns-in-104 c = arm 104 c.args.at c.in-104.is refl

pub returns-in-105 : goal.returns-in-105
returns-in-105 c = arm 105 c.args.at c.in-105.is refl

pub returns-in-106 : goal.returns-in-106
returns-in-106 c = arm 106 c.args.at c.in-106.is refl

pub returns-in-107 : goal.returns-in-107
returns-in-107 c = arm 107 c.args.at c.in-107.is refl

pub returns-in-108 : goal.returns-in-108
returns-in-108 c = arm 108 c.args.at c.in-108.is refl

pub returns-in-109 : goal.returns-in-109
returns-in-109 c = arm 109 c.args.at c.in-109.is refl

pub returns-in-110 : goal.returns-in-110
returns-in-110 c = arm 110 c.args.at c.in-110.is refl

pub returns-in-111 : goal.returns-in-111
returns-in-111 c = arm 111 c.args.at c.in-111.is refl

pub returns-in-112 : goal.returns-in-112
returns-in-112 c = arm 112 c.args.at c.in-112.is refl

pub returns-in-113 : goal.returns-in-113
returns-in-113 c = arm 113 c.args.at c.in-113.is refl

pub returns-in-114 : goal.returns-in-114
returns-in-114 c = arm 114 c.args.at c.in-114.is refl

pub returns-in-115 : goal.returns-in-115
returns-in-115 c = arm 115 c.args.at c.in-115.is refl

pub returns-in-116 : goal.returns-in-116
returns-in-116 c = arm 116 c.args.at c.in-116.is refl

pub returns-in-117 : goal.returns-in-117
returns-in-117 c = arm 117 c.args.at c.in-117.is refl

pub returns-in-118 : goal.returns-in-118
returns-in-118 c = arm 118 c.args.at c.in-118.is refl

pub returns-in-119 : goal.returns-in-119
returns-in-119 c = arm 119 c.args.at c.in-119.is refl

pub returns-in-120 : goal.returns-in-120
returns-in-120 c = arm 120 c.args.at c.in-120.is refl

pub returns-in-121 : goal.returns-in-121
returns-in-121 c = arm 121 c.args.at c.in-121.is refl

pub returns-in-122 : goal.returns-in-122
returns-in-122 c = arm 122 c.args.at c.in-122.is refl

pub returns-in-123 : goal.returns-in-123
returns-in-123 c = arm 123 c.args.at c.in-123.is refl

pub returns-in-124 : goal.returns-in-124
returns-in-124 c = arm 124 c.args.at c.in-124.is refl

pub returns-in-125 : goal.returns-in-125
returns-in-125 c = arm 125 c.args.at c.in-125.is refl

pub returns-in-126 : goal.returns-in-126
returns-in-126 c = arm 126 c.args.at c.in-126.is refl

pub returns-in-127 : goal.returns-in-127
returns-in-127 c = arm 127 c.args.at c.in-127.is refl
